-- `wah::check::check` meets its contract. Where the loop stands, the faults of the rest are those of the body. Assumes nothing.
use Prim.Native.Nat.{◌+◌, ◌≤◌}
use mathlib.Core.Path.{◌≡◌}
use lib.ListN.{drop}
use Rattle.meaning.specs.Segment.{segment_count}
use Rattle.meaning.specs.Wah.{wah_fault_from, wah_fault}
use Rattle.wah.proofs.check.check.Given as goal

abbrev pub invariant-loop-at : goal.invariant-loop-at
invariant-loop-at l =
    (l.left ≤ segment_count 31 l.rows)
    × (wah_fault_from l.bitmap l.rows (l.start + l.at-counter) l.left (drop l.at-counter l.body) ≡ wah_fault l.bitmap l.start l.rows l.body)
