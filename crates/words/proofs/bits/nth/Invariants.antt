-- `words::bits::nth` meets its contract. The invariant: as many set bits lie below j as were passed, and these are at most n.
-- Assumes nothing.
use mathlib.Core.Path.{◌≡◌}
use Prim.Native.Nat.{◌≤◌}
use Rattle.meaning.specs.Rows.{count_below}
use Rattle.meaning.specs.Segment.{is_set}
use Rattle.words.proofs.bits.nth.Given as goal

abbrev pub invariant-loop-j : goal.invariant-loop-j
invariant-loop-j l = (l.j ≤ 32) × (count_below l.j (is_set l.x) ≡ l.passed) × (l.passed ≤ l.n)
