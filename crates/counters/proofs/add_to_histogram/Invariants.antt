-- `counters::add_to_histogram` meets its contract. The invariant: the counts below c have grown, the others are as they were.
-- Assumes nothing.
use mathlib.Core.Bool.{◌&&◌}
use mathlib.Core.List.{List}
use mathlib.Core.Path.{◌≡◌}
use Prim.Native.Nat.{ℕ, ◌+◌, ◌-◌, ◌≤◌}
use lib.Dec.{eqb}
use lib.ListN.{length, get_or}
use Rattle.meaning.specs.Limits.{histogram_counts}
use Rattle.meaning.specs.Rows.{count_below}
use Rattle.meaning.specs.Segment.{is_set}
use Rattle.counters.specs.Counters.{count_at}
use Rattle.words.proofs.Entries.{Filled}
use Rattle.counters.proofs.add_to_histogram.Given as goal

-- how many rows of the mask have the count c
abbrev pub rows_at : List ℕ → (base mask c : ℕ) → ℕ
rows_at planes base mask c = count_below 32 (λ j. is_set mask j && eqb (base + count_at planes j) c)

-- what the count at c grows to
abbrev pub grown : (counts planes : List ℕ) (base mask c : ℕ) → ℕ
grown counts planes base mask c = get_or counts c 0 + rows_at planes base mask c

abbrev pub invariant-loop-c : goal.invariant-loop-c
invariant-loop-c l = (l.base ≤ l.c) × (l.c ≤ l.base + l.most + 1) × (length l.counts ≡ histogram_counts) × Filled (grown l.initial.counts l.planes l.base l.mask) l.initial.counts l.counts l.c
