-- `popcount::count` meets its contract. The invariant: what the planes hold and what has left them are the set bits of the
-- blocks so far.
-- Assumes nothing.
use mathlib.Core.Path.{◌≡◌}
use Prim.Native.Nat.{◌+◌, ◌*◌}
use Rattle.popcount.specs.Counts.{block_size, set_in}
use Rattle.popcount.specs.Weights.{weight}
use Rattle.popcount.proofs.count.Given as goal

abbrev pub invariant-loop-block : goal.invariant-loop-block
invariant-loop-block l = weight l.p + 16 * l.n ≡ set_in l.ws 0 (l.block-index * block_size)
