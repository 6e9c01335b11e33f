-- `ewah_write::compress::write` meets its contract: the draft of the words passed is in the buffer. Assumes nothing.
use mathlib.Core.Path.{◌≡◌}
use lib.ListN.{length}
use Rattle.meaning.specs.Segment.{kinds}
use Rattle.laws.proofs.Prefixes.{up_to}
use Rattle.ewah_write.proofs.Pushing.{Written}
use Rattle.ewah_write.proofs.compress.write.Given as goal

abbrev pub invariant-loop-x : goal.invariant-loop-x
invariant-loop-x l = (length l.out ≡ length l.initial.out) × Written l.initial.out l.out l.w (up_to (kinds 32 l.rows l.plain) l.x-index)
