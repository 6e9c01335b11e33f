-- `ewah_count::count::count_segments` meets its contract, by the laws of `Passing`. The invariant: the walk stands at a marker, and so
-- many bits of the segments behind are set; at the end the pad bits among them are those of the marker read last.
-- Assumes nothing.
use Prim.Native.Nat.{◌-◌}
use lib.ListN.{length}
use Rattle.ewah_count.proofs.Passing.{Passed}
use Rattle.ewah_count.proofs.count.count_segments.Given as goal

abbrev pub invariant-loop-left : goal.invariant-loop-left
invariant-loop-left g l = Passed l.rows l.body l.at l.left l.set l.last

abbrev pub decreases-loop-left : goal.decreases-loop-left
decreases-loop-left g l = length l.body - l.at
