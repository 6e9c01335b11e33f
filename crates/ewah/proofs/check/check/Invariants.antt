-- `ewah::check::check` meets its contract. Where the loop stands, the faults of the rest are those of the body. Assumes nothing.
use Prim.Native.Nat.{◌+◌, ◌-◌, ◌≤◌}
use mathlib.Core.Path.{◌≡◌}
use lib.ListN.{length, drop}
use Rattle.meaning.specs.Segment.{segment_count}
use Rattle.meaning.specs.Ewah.{fault_from, ewah_fault}
use Rattle.ewah.proofs.check.check.Given as goal

abbrev pub invariant-loop-rest : goal.invariant-loop-rest
invariant-loop-rest l = (l.rest.at ≤ length l.body) × (l.rest.left ≤ segment_count 32 l.rows) × (fault_from l.bitmap l.rows (l.start + l.rest.at) 0 l.rest.left (drop l.rest.at l.body) ≡ ewah_fault l.bitmap l.start l.rows l.body)

abbrev pub decreases-loop-rest : goal.decreases-loop-rest
decreases-loop-rest l = length l.body - l.rest.at
