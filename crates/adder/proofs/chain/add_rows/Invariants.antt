-- `adder::chain::add_rows` meets its contract. The invariant: what exists and the i lowest digits are there, and the carries into
-- digit i.
-- Assumes nothing.
use mathlib.Core.Bool.{cond, not}
use lib.Dec.{eqb}
use Rattle.column_meaning.specs.Column.{pair_value}
use Rattle.meaning.specs.declared.Pairing.TheVariants.{Sum, Difference}
use Rattle.adder.proofs.Adding.{RowCarry}
use Rattle.adder.proofs.Filling.{Filling}
use Rattle.adder.proofs.chain.add_rows.Given as goal

abbrev pub invariant-loop-i : goal.invariant-loop-i
invariant-loop-i g l =
    RowCarry l.x l.y (not (eqb g.row.FLIP 0)) l.i l.carry × Filling (pair_value (cond (not (eqb g.row.FLIP 0)) Difference Sum)) l.x l.y l.exist l.n l.i l.z
