-- `zvonurel_c::zv_check_body` meets its contract: `checks` of what `zvonurel::check_body` told; no refusal of it has number 0. Assumes nothing.
use mathlib.Core.Path.{ap, ◌∙◌}
use Rattle.meaning.specs.declared.Format.TheVariants.{Ewah}
use Rattle.meaning.specs.Answer as meaning
use Rattle.replies.specs.Exported.{checked_code}
use Rattle.laws.proofs.Numbered as numbered
use Rattle.replies.proofs.Codes.{checks}
use Rattle.zvonurel_c.proofs.zv_check_body.Goals as goal

pub returns : goal.returns
returns c =
    let a = c.args in
    checks (meaning.check_body Ewah a.rows a.body.now) c.from.result (numbered.check-body Ewah a.rows a.body.now) (c.from.ensures ∙ ap checked_code c.check_body.ensures)
