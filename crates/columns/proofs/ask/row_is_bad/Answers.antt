-- `columns::ask::row_is_bad` meets its contract.
-- Assumes nothing.
use Rattle.columns.proofs.Asking.{bad-past, bad-absent, good-column}
use native.Mathlib.Omega.{arith}
use Rattle.columns.proofs.ask.row_is_bad.Goals as goal

pub returns-then-rows-row : goal.returns-then-rows-row
returns-then-rows-row c = bad-past _ _ _ (omega (arith, c.if-rows-row.true, c.rows.ensures))

pub exists-requires : goal.exists-requires
exists-requires c =
    let g = good-column _ _ _ c.requires.list_value in record {
      index_facts = c.requires.index_facts;
      least_column_in_bounds = (g.0, g.1, g.2, omega (arith, c.if-rows-row.false, c.rows.ensures));
    }

pub returns : goal.returns
returns c = bad-absent _ _ _ (omega (arith, c.if-rows-row.false, c.rows.ensures)) _ c.exists.ensures
