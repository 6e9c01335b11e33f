-- `ewah_write::compress::measure` meets its contract: the writer tracks the draft so far. Assumes nothing.
use Rattle.meaning.specs.Segment.{kinds}
use Rattle.laws.proofs.Prefixes.{up_to}
use Rattle.ewah_write.specs.Drafts.{Tracks}
use Rattle.ewah_write.proofs.compress.measure.Given as goal

abbrev pub invariant-loop-x : goal.invariant-loop-x
invariant-loop-x l = Tracks l.w (up_to (kinds 32 l.rows l.plain) l.x-index)
