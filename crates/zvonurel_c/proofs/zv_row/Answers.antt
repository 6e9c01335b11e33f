-- `zvonurel_c::zv_row` meets its contract: `flags` of what `zvonurel::row` told; no refusal of it has number 0. Assumes nothing.
use mathlib.Core.Path.{ap, ◌∙◌}
use Rattle.meaning.specs.Answer as meaning
use Rattle.replies.specs.Exported.{flag_code}
use Rattle.laws.proofs.Numbered as numbered
use Rattle.replies.proofs.Codes.{flags}
use Rattle.zvonurel_c.proofs.zv_row.Goals as goal

pub returns : goal.returns
returns c =
    let a = c.args in
    flags (meaning.row a.index.now a.k a.row) c.from.result (numbered.row a.index.now a.k a.row) (c.from.ensures ∙ ap flag_code c.row.ensures)
