-- `zvonurel_c::alone::zv_wah_body_nth` meets its contract: `numbers` of what `zvonurel::body_nth` told; no refusal of it has number 0. Assumes nothing.
use mathlib.Core.Path.{ap, ◌∙◌}
use Rattle.meaning.specs.declared.Format.TheVariants.{Wah}
use Rattle.meaning.specs.Answer as meaning
use Rattle.replies.specs.Exported.{number_code}
use Rattle.laws.proofs.Numbered as numbered
use Rattle.replies.proofs.Codes.{numbers}
use Rattle.zvonurel_c.proofs.alone.zv_wah_body_nth.Goals as goal

pub returns : goal.returns
returns c =
    let a = c.args in
    numbers (meaning.body_nth Wah a.rows a.body.now a.n) c.from.result (numbered.body-nth Wah a.rows a.body.now a.n) (c.from.ensures ∙ ap number_code c.body_nth.ensures)
