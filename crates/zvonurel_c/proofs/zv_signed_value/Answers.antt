-- `zvonurel_c::zv_signed_value` meets its contract: `signed-values` of what `zvonurel::signed_value` told; no refusal of it has number 0. Assumes nothing.
use mathlib.Core.Path.{ap, ◌∙◌}
use Rattle.column_meaning.specs.Columns as columns
use Rattle.replies.specs.Exported.{signed_code}
use Rattle.laws.proofs.Numbered as numbered
use Rattle.replies.proofs.Codes.{signed-values}
use Rattle.zvonurel_c.proofs.zv_signed_value.Goals as goal

pub returns : goal.returns
returns c =
    let a = c.args in
    signed-values (columns.signed_value a.index.now a.column.now a.row) c.from.result (numbered.signed-value a.index.now a.column.now a.row) (c.from.ensures ∙ ap signed_code c.signed_value.ensures)
