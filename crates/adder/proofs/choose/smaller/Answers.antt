-- `adder::choose::smaller` meets its contract. The invariant: what exists and the i lowest digits of the smaller numbers are
-- there.
-- Assumes nothing.
use mathlib.Core.Path.{refl}
use Rattle.adder.proofs.Choosing.{chosen-digit}
use Rattle.adder.proofs.Filling.{filling-more}
use native.Mathlib.Omega.{arith}
use Rattle.adder.proofs.choose.smaller.Goals as goal

pub loop-i-preserved : goal.loop-i-preserved
loop-i-preserved c =
    let h = c.loop-i in
    let less = c.add_rows-not_less.ensures.1 refl in
    filling-more
    (chosen-digit less c.part.ensures c.part-in-loop-i.ensures c.choice-chosen.ensures (omega arith))
    c.put_both.ensures h.invariant
