-- `adder::choose::smaller` meets its contract. The invariant: what exists and the i lowest digits of the smaller numbers are
-- there.
-- Assumes nothing.
use Rattle.column_meaning.specs.Column.{pair_value}
use Rattle.meaning.specs.declared.Pairing.TheVariants.{Smaller}
use Rattle.adder.proofs.Filling.{Filling}
use Rattle.adder.proofs.choose.smaller.Given as goal

abbrev pub invariant-loop-i : goal.invariant-loop-i
invariant-loop-i l = Filling (pair_value Smaller) l.x l.y l.exist l.n l.i l.z
