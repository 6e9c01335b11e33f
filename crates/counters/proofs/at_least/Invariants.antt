-- `counters::at_least` meets its contract. The invariant: the bits of r say how the digits below k compare.
-- Assumes nothing.
use Prim.Native.Nat.{◌-◌, ◌≤◌}
use Rattle.meaning.specs.Limits.{counter_planes}
use Rattle.counters.proofs.CounterLaws.{Compared, reaches}
use Rattle.counters.proofs.at_least.Given as goal

abbrev pub invariant-loop-k : goal.invariant-loop-k
invariant-loop-k l = (l.k ≤ counter_planes) × Compared reaches 32 l.planes l.t l.r l.k

abbrev pub decreases-loop-k : goal.decreases-loop-k
decreases-loop-k l = counter_planes - l.k
