-- `gather::nearest` meets its contract. The invariant: no piece of the places passed has less left.
-- Assumes nothing.
use Prim.Native.Nat.{ℕ, ◌≤◌, ◌<◌}
use Rattle.ewah.specs.Cursors.{left_of}
use Rattle.walk.specs.Queries.{cursor_of}
use Rattle.gather.proofs.nearest.Given as goal

abbrev pub invariant-loop-c : goal.invariant-loop-c
invariant-loop-c l = (j : ℕ) → j < l.c-index → l.least ≤ left_of (cursor_of l.cursors j).piece
