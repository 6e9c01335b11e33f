-- `body_read::row::is_set` meets its contract: the bit is that of `has_row`. Assumes nothing.
use mathlib.Core.Path.{ap₂, ◌∙◌}
use Rattle.meaning.specs.Segment.{has_row, is_set}
use Rattle.meaning.specs.Format.{rows_of}
use Rattle.body_read.proofs.row.is_set.Goals as goal

pub returns : goal.returns
unfolding rows_of has_row
returns c = c.has.ensures ∙ ap₂ is_set c.locate-bit.ensures.place.word-is c.locate-bit.ensures.bit
