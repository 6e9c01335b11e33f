-- `zvonurel_c::zv_histogram` meets its contract: `counts` of what `zvonurel::histogram` told; no refusal of it has number 0. Assumes nothing.
use mathlib.Core.Path.{ap, ◌∙◌}
use Rattle.meaning.specs.Answer as meaning
use Rattle.replies.specs.Exported.{histogram_code}
use Rattle.laws.proofs.Numbered as numbered
use Rattle.replies.proofs.Codes.{counts}
use Rattle.zvonurel_c.proofs.zv_histogram.Goals as goal

pub returns : goal.returns
returns c =
    let a = c.args in
    counts (meaning.histogram a.index.now a.list.now) c.from.result (numbered.histogram a.index.now a.list.now) (c.from.ensures ∙ ap histogram_code c.histogram.ensures)
