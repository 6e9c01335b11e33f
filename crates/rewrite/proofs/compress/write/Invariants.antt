-- `rewrite::compress::write` meets its contract: the segments passed are in the buffer. Assumes nothing.
use mathlib.Core.Bool.{true}
use Rattle.meaning.specs.Segment.{has_row}
use Rattle.row_write.specs.Sending.{Sent}
use Rattle.rewrite.proofs.compress.write.Given as goal

abbrev pub invariant-loop-i : goal.invariant-loop-i
invariant-loop-i l = Sent l.format l.rows (has_row 32 l.plain) l.initial.out true l.out l.i l.w
