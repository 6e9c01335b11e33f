-- `columns::pair::wider` meets its contract: the larger length, less existence. Assumes nothing.
use native.Mathlib.Omega.{arith}
use Rattle.column_meaning.specs.Columns.{wider, slice_count}
use Rattle.columns.proofs.pair.wider.Goals as goal

pub returns : goal.returns
unfolding wider slice_count
returns c = omega (arith, c.max.ensures)
