-- `column::exists` meets its contract.
-- Assumes nothing.
use mathlib.Core.Path.{◌∙◌}
use native.Mathlib.Omega.{arith}
use Rattle.column.proofs.Columns.{exists-first}
use Rattle.column.proofs.exists.Goals as goal

pub has-requires : goal.has-requires
has-requires c =
    record {
      index_facts = c.requires.index_facts;
      format_value = (c.format.ensures, c.requires.least_column_in_bounds.2 0 (omega (arith, c.requires.least_column_in_bounds.0)), c.requires.least_column_in_bounds.3);
    }

pub returns : goal.returns
returns c =
    c.has.ensures
    ∙ exists-first c.args.index.now c.args.list.now c.args.row (omega (arith, c.requires.least_column_in_bounds.0))
