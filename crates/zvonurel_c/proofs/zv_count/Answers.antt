-- `zvonurel_c::zv_count` meets its contract: `numbers` of what `zvonurel::count` told; no refusal of it has number 0. Assumes nothing.
use mathlib.Core.Path.{ap, ◌∙◌}
use Rattle.meaning.specs.Answer as meaning
use Rattle.replies.specs.Exported.{number_code}
use Rattle.laws.proofs.Numbered as numbered
use Rattle.replies.proofs.Codes.{numbers}
use Rattle.zvonurel_c.proofs.zv_count.Goals as goal

pub returns : goal.returns
returns c =
    let a = c.args in
    numbers (meaning.count a.index.now a.k) c.from.result (numbered.count a.index.now a.k) (c.from.ensures ∙ ap number_code c.count.ensures)
