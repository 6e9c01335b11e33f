-- `zvonurel_c::zv_value` meets its contract: `values` of what `zvonurel::value` told; no refusal of it has number 0. Assumes nothing.
use mathlib.Core.Path.{ap, ◌∙◌}
use Rattle.column_meaning.specs.Columns as columns
use Rattle.replies.specs.Exported.{value_code}
use Rattle.laws.proofs.Numbered as numbered
use Rattle.replies.proofs.Codes.{values}
use Rattle.zvonurel_c.proofs.zv_value.Goals as goal

pub returns : goal.returns
returns c =
    let a = c.args in
    values (columns.value a.index.now a.column.now a.row) c.from.result (numbered.value a.index.now a.column.now a.row) (c.from.ensures ∙ ap value_code c.value.ensures)
