-- `repack::plain::rows_from` meets its contract: by `plain-part`, out of the 64 rows of two words. Assumes nothing.
use Prim.Native.Nat.{ℕ, ◌/◌, ◌%◌, ◌^◌}
use mathlib.Core.Path.{ap₂, ◌∙◌}
use lib.Bits.{and_mask}
use native.Mathlib.Omega.{arith}
use Rattle.repack.proofs.PlainSegments.{plain-part}
use Rattle.repack.proofs.plain.rows_from.Goals as goal

pub overflow_cast-at-2 : goal.overflow_cast-at-2
overflow_cast-at-2 c = omega (arith, and_mask c.args.at 5)

pub overflow_shr-both : goal.overflow_shr-both
overflow_shr-both c = omega (arith, and_mask c.args.at 5)

pub returns : goal.returns
returns c =
    let a = c.args in
    c.lowest.ensures
    ∙ ap₂ (λ (x m : ℕ). x / 2 ^ m % 2 ^ a.n) c.pair-both.ensures (and_mask a.at 5)
    ∙ plain-part a.plain.now a.at a.n c.requires.0
