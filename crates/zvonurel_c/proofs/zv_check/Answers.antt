-- `zvonurel_c::zv_check` meets its contract: `checks` of what `zvonurel::check` told; no refusal of it has number 0. Assumes nothing.
use mathlib.Core.Path.{ap, ◌∙◌}
use Rattle.meaning.specs.Answer as meaning
use Rattle.replies.specs.Exported.{checked_code}
use Rattle.laws.proofs.Numbered as numbered
use Rattle.replies.proofs.Codes.{checks}
use Rattle.zvonurel_c.proofs.zv_check.Goals as goal

pub returns : goal.returns
returns c =
    let a = c.args in
    checks (meaning.check a.index.now) c.from.result (numbered.check a.index.now) (c.from.ensures ∙ ap checked_code c.check.ensures)
