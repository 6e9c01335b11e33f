-- `columns::pair::slices` meets its contract.
-- Assumes nothing.
use mathlib.Core.Path.{refl}
use native.Mathlib.Numerals.{add-one}
use Rattle.column_meaning.specs.Column.{pair_slices}
use Rattle.meaning.specs.declared.Pairing.TheVariants.{Sum, Difference, Smaller, DifferenceOrZero}
use Rattle.columns.proofs.Asking.{width_of, wider-low}
use native.Mathlib.Omega.{arith}
use Rattle.columns.proofs.pair.slices.Goals as goal

pub overflow_add-result : goal.overflow_add-result
overflow_add-result c =
    omega (arith, c.wider-w.ensures, wider-low c.args.first.now c.args.second.now c.requires.first_len_bound.0 c.requires.first_len_bound.1)

pub overflow_add-result-in-Difference : goal.overflow_add-result-in-Difference
overflow_add-result-in-Difference c =
    omega (arith, c.wider-w.ensures, wider-low c.args.first.now c.args.second.now c.requires.first_len_bound.0 c.requires.first_len_bound.1)

pub returns-in-Sum : goal.returns-in-Sum
unfolding pair_slices
returns-in-Sum c =
    let a = c.args in
    width_of a.op Sum a.first.now a.second.now c.wider-w.result _ c.wider-w.ensures c.in-Sum.is (add-one _)

pub returns-in-Difference : goal.returns-in-Difference
unfolding pair_slices
returns-in-Difference c =
    let a = c.args in
    width_of a.op Difference a.first.now a.second.now c.wider-w.result _ c.wider-w.ensures c.in-Difference.is (add-one _)

pub returns-in-Smaller : goal.returns-in-Smaller
unfolding pair_slices
returns-in-Smaller c =
    let a = c.args in
    width_of a.op Smaller a.first.now a.second.now c.wider-w.result _ c.wider-w.ensures c.in-Smaller.is (refl)

pub returns-in-DifferenceOrZero : goal.returns-in-DifferenceOrZero
unfolding pair_slices
returns-in-DifferenceOrZero c =
    let a = c.args in
    width_of a.op DifferenceOrZero a.first.now a.second.now c.wider-w.result _ c.wider-w.ensures c.in-DifferenceOrZero.is (refl)
