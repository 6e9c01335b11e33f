-- `bitwise::zv_body_count_bitwise` meets its contract: `numbers` of what `body_count` told; no refusal of it has number
-- 0.
-- Assumes nothing.
use mathlib.Core.Path.{ap, ◌∙◌}
use Rattle.meaning.specs.declared.Format.TheVariants.{Ewah}
use Rattle.meaning.specs.Answer as meaning
use Rattle.replies.specs.Exported.{number_code}
use Rattle.laws.proofs.Numbered as numbered
use Rattle.replies.proofs.Codes.{numbers}
use Rattle.bitwise.proofs.zv_body_count_bitwise.Goals as goal

pub returns : goal.returns
returns c =
    let a = c.args in
    let b = a.body.now in
    let told = c.from.ensures ∙ ap number_code c.body_count.ensures in
    numbers (meaning.body_count Ewah a.rows b) c.from.result (numbered.body-count Ewah a.rows b) told
