-- `popcount::vector::set_bits` meets its contract, by `first-all`. The invariant: n bits of the first w words are set.
-- Assumes nothing.
use mathlib.Core.Path.{◌≡◌}
use Prim.Native.Nat.{◌-◌, ◌≤◌}
use Rattle.popcount.specs.Counts.{lanes}
use Rattle.popcount.proofs.Counted.{set_first}
use Rattle.popcount.proofs.vector.set_bits.Given as goal

abbrev pub invariant-loop-w : goal.invariant-loop-w
invariant-loop-w l = (l.w ≤ lanes) × (l.n ≡ set_first l.a l.w)

abbrev pub decreases-loop-w : goal.decreases-loop-w
decreases-loop-w l = lanes - l.w
