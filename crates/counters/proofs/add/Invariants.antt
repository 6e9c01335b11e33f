-- `counters::add` meets its contract. The invariant: the word has been added to the planes below k, up to the carry.
-- Assumes nothing.
use Prim.Native.Nat.{◌-◌, ◌≤◌}
use Rattle.meaning.specs.Limits.{counter_planes}
use Rattle.counters.proofs.CounterLaws.{Added}
use Rattle.counters.proofs.add.Given as goal

abbrev pub invariant-loop-k : goal.invariant-loop-k
invariant-loop-k l = (l.k ≤ counter_planes) × Added l.initial.r l.x l.r l.carry l.k

abbrev pub decreases-loop-k : goal.decreases-loop-k
decreases-loop-k l = counter_planes - l.k
