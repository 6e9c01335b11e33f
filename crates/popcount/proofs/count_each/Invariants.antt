-- `popcount::count_each` meets its contract. The invariant: n bits of the words so far are set.
-- Assumes nothing.
use mathlib.Core.Path.{◌≡◌}
use Rattle.popcount.specs.Counts.{set_in}
use Rattle.popcount.proofs.count_each.Given as goal

abbrev pub invariant-loop-x : goal.invariant-loop-x
invariant-loop-x l = l.n ≡ set_in l.ws 0 l.x-index
