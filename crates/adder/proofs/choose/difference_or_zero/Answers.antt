-- `adder::choose::difference_or_zero` meets its contract. The invariant: the i lowest rows of digits are masked, and the others
-- are still those of the difference.
-- Assumes nothing.
use Prim.Native.Nat.{◌+◌, ◌*◌}
use mathlib.Core.Path.{refl, ◌∙◌}
use Rattle.meaning.specs.Limits.{block_segments}
use Rattle.adder.proofs.Choosing.{kept-digit}
use Rattle.adder.proofs.Filling.{filling-put}
use native.Mathlib.Omega.{arith}
use Rattle.adder.proofs.choose.difference_or_zero.Goals as goal

pub loop-i-preserved : goal.loop-i-preserved
loop-i-preserved c =
    let h = c.loop-i in
    let f = c.add_rows-not_less in
    let put = c.put_both.ensures in
    let rest = h.invariant.1 in (
      filling-put
          (kept-digit c.part-digits.result h.i (f.ensures.1 refl) f.ensures.0 (omega arith)
          (λ w l. c.part-digits.ensures.words w l ∙ rest ((h.i + 1) * block_segments + w) (omega arith)))
          put h.invariant.0,
      λ k l. put.behind k (omega arith) ∙ rest k (omega arith),
    )
