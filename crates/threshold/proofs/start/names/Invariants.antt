-- `threshold::start::names` meets its contract. The invariant: each of the first i words is its own place.
-- Assumes nothing.
use Prim.Native.Nat.{ℕ, ◌<◌}
use mathlib.Core.Path.{◌≡◌}
use lib.ListN.{length, get_or}
use Rattle.meaning.specs.Limits.{most_named}
use Rattle.threshold.proofs.start.names.Given as goal

abbrev pub invariant-loop-i : goal.invariant-loop-i
invariant-loop-i l = (length l.list ≡ most_named) × ((k : ℕ) → k < l.i → get_or l.list k 0 ≡ k)
