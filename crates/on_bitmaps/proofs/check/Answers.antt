-- `on_bitmaps::check` meets its contract: that of `index::check::check`. Assumes nothing.
use Rattle.meaning.specs.Answer.{check}
use Rattle.on_bitmaps.proofs.check.Goals as goal

pub returns : goal.returns
unfolding check
returns c = c.check.ensures
