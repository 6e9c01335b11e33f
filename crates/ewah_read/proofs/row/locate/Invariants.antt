-- `ewah_read::row::locate` meets its contract. The invariant is `Seeks`: the walk stands at a marker, and the segment is so many ahead.
-- Assumes nothing.
use Rattle.ewah_read.proofs.Locating.{Seeks}
use Rattle.ewah_read.proofs.row.locate.Given as goal

abbrev pub invariant-loop-m : goal.invariant-loop-m
invariant-loop-m l = Seeks l.body l.s l.m-iterator.rest.now l.ahead
