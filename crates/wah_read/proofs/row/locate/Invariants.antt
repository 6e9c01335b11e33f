-- `wah_read::row::locate` meets its contract. The invariant is `Seeks`: the walk stands at a word, and the segment is so many ahead.
-- Assumes nothing.
use Rattle.wah_read.proofs.Locating.{Seeks}
use Rattle.wah_read.proofs.row.locate.Given as goal

abbrev pub invariant-loop-x : goal.invariant-loop-x
invariant-loop-x l = Seeks l.body l.s l.x-index l.ahead
