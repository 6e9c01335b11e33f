-- `threshold::input::words` meets its contract. The invariant: each of the first i words is that of its four bytes.
-- Assumes nothing.
use Prim.Native.Nat.{ℕ, ◌<◌}
use mathlib.Core.Path.{◌≡◌}
use mathlib.Core.List.{[]}
use lib.ListN.{get_or}
use Rattle.std.specs.Int.{from_le_bytes, w32}
use Rattle.threshold.proofs.input.words.Given as goal

abbrev pub invariant-loop-i : goal.invariant-loop-i
invariant-loop-i l = (k : ℕ) → k < l.i → get_or l.out k 0 ≡ from_le_bytes w32 (get_or l.fours k [])
