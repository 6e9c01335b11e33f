-- `index::check::check_entries` meets its contract. The loop's invariant: the first fault of the entries from k on, with the next body due at `end`, is that of all entries. Assumes nothing.
use mathlib.Core.Path.{◌≡◌}
use Prim.Native.Nat.{◌-◌, ◌≤◌}
use lib.ListN.{length}
use Rattle.meaning.specs.Index.{bitmap_count, entry_place, entries_fault}
use Rattle.index.proofs.check.check_entries.Given as goal

abbrev pub invariant-loop-k : goal.invariant-loop-k
invariant-loop-k l =
    (l.end ≤ length l.index)
    × (entries_fault l.index l.k (l.n - l.k) l.end ≡ entries_fault l.index 0 (bitmap_count l.index) (entry_place l.index (bitmap_count l.index)))
