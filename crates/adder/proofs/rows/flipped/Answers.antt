-- `adder::rows::flipped` meets its contract, by `flip_word`. Assumes nothing.
use mathlib.Core.Path.{◌≡◌, ap, ◌∙◌}
use Prim.Native.Nat.{ℕ}
use lib.ListN.{get_or}
use Rattle.meaning.specs.Limits.{block_segments}
use Rattle.meaning.specs.Segment.{bit_at}
use Rattle.adder.proofs.Bits.{flip_word}
use native.Mathlib.Omega.{arith}
use Rattle.adder.proofs.rows.flipped.Goals as goal

pub returns : goal.returns
returns c =
    let h = c.loop-w in
    let a = c.args in
    let w-is : h.w ≡ block_segments = omega arith in
    let f = rw w-is at h.invariant in
    record {
      bits = λ w j l k.
          ap (λ (v : ℕ). bit_at v j) (f.done w l) ∙ flip_word a.flip (get_or a.a w 0) c.filled-mask.result j (c.filled-mask.ensures j k);
    }
