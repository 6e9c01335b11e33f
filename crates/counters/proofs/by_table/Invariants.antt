-- `counters::by_table` meets its contract. The invariant: the rows so far are those of which the entries below k tell.
-- Assumes nothing.
use mathlib.Core.Path.{◌≡◌}
use Prim.Native.Nat.{ℕ, ◌+◌, ◌-◌, ◌≤◌, ◌<◌}
use lib.ListN.{length}
use Rattle.meaning.specs.Segment.{is_set}
use Rattle.counters.specs.Counters.{count_at}
use Rattle.words.proofs.Entries.{told}
use Rattle.counters.proofs.by_table.Given as goal

abbrev pub invariant-loop-k : goal.invariant-loop-k
invariant-loop-k l = (l.base ≤ l.k) × ((j : ℕ) → j < 32 → is_set l.r j ≡ told l.table l.k (l.base + count_at l.planes j))
