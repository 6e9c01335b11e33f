-- `zvonurel_c::zv_bitmap_refusal` meets its contract: `checks` of what `zvonurel::bitmap_refusal` told; no refusal of it has number 0. Assumes nothing.
use mathlib.Core.Path.{ap, ◌∙◌}
use Rattle.meaning.specs.Answer as meaning
use Rattle.replies.specs.Exported.{checked_code}
use Rattle.laws.proofs.Numbered as numbered
use Rattle.replies.proofs.Codes.{checks}
use Rattle.zvonurel_c.proofs.zv_bitmap_refusal.Goals as goal

pub returns : goal.returns
returns c =
    let a = c.args in
    checks (meaning.bitmap_refusal a.index.now a.k) c.from.result (numbered.bitmap-refusal a.index.now a.k) (c.from.ensures ∙ ap checked_code c.bitmap_refusal.ensures)
