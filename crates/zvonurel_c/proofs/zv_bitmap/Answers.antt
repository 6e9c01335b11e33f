-- `zvonurel_c::zv_bitmap` meets its contract: `lends` of the place that is told. Assumes nothing.
use mathlib.Core.Path.{◌∙◌}
use Rattle.zvonurel_c.proofs.Lent.{lends}
use Rattle.zvonurel_c.proofs.zv_bitmap.Goals as goal

pub returns : goal.returns
returns c = lends c.args.index.now c.args.k c.from.result (c.from.ensures ∙ c.place.ensures)
