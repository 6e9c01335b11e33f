-- `words::rows::spelled` meets its contract: the mask's rows are the remainder by 2 ^ real. Assumes nothing.
use Prim.Native.Nat.{ℕ, ◌%◌, ◌^◌, ◌≤◌}
use mathlib.Core.Path.{sym, ap, ◌∙◌}
use lib.Bits.{bit_and, and_mask}
use lib.Pow.{pow_pos, pow_mono}
use native.Mathlib.Nat.{mod-lt}
use native.Mathlib.Omega.{arith}
use Rattle.meaning.specs.Segment.{kind, all_set}
use Rattle.laws.proofs.Segments.{kind-full, kind-wider}
use Rattle.words.proofs.rows.spelled.Goals as goal

pub returns-then-seen-mask : goal.returns-then-seen-mask
unfolding all_set
returns-then-seen-mask c w real some most f e =
    let x = c.args.x in
    let y = ap (λ (m : ℕ). bit_and x m) e ∙ and_mask x real in (
      ap (kind w) f ∙ kind-full w (omega arith) ∙ sym (ap (kind real) (sym y ∙ c.if-seen-mask.true ∙ e) ∙ kind-full real some),
      omega (arith, f, pow_pos w),
    )

pub returns : goal.returns
unfolding all_set
returns c w real some most f e =
    let x = c.args.x in
    let y = ap (λ (m : ℕ). bit_and x m) e ∙ and_mask x real in
    let wider : 2 ^ real ≤ 2 ^ w = pow_mono most in (
      ap (kind w) y ∙ kind-wider w real (x % 2 ^ real) most (mod-lt x (pow_pos real)) (λ k. c.if-seen-mask.false (y ∙ k ∙ sym e)),
      omega (arith, y, mod-lt x (pow_pos real)),
    )
