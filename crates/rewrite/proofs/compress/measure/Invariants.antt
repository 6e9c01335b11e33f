-- `rewrite::compress::measure` meets its contract: the writer stands for the segments passed. Assumes nothing.
use mathlib.Core.Bool.{false}
use mathlib.Core.List.{[]}
use Rattle.meaning.specs.Segment.{has_row}
use Rattle.row_write.specs.Sending.{Sent}
use Rattle.rewrite.proofs.compress.measure.Given as goal

abbrev pub invariant-loop-i : goal.invariant-loop-i
invariant-loop-i l = Sent l.format l.rows (has_row 32 l.plain) [] false [] l.i l.w
