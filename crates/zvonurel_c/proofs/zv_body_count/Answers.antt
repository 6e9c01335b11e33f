-- `zvonurel_c::zv_body_count` meets its contract: `numbers` of what `zvonurel::body_count` told; no refusal of it has number 0. Assumes nothing.
use mathlib.Core.Path.{ap, ◌∙◌}
use Rattle.meaning.specs.declared.Format.TheVariants.{Ewah}
use Rattle.meaning.specs.Answer as meaning
use Rattle.replies.specs.Exported.{number_code}
use Rattle.laws.proofs.Numbered as numbered
use Rattle.replies.proofs.Codes.{numbers}
use Rattle.zvonurel_c.proofs.zv_body_count.Goals as goal

pub returns : goal.returns
returns c =
    let a = c.args in
    numbers (meaning.body_count Ewah a.rows a.body.now) c.from.result (numbered.body-count Ewah a.rows a.body.now) (c.from.ensures ∙ ap number_code c.body_count.ensures)
