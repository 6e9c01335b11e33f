-- `adder::choose::difference_or_zero` meets its contract. The invariant: the i lowest rows of digits are masked, and the others
-- are still those of the difference.
-- Assumes nothing.
use Prim.Native.Nat.{ℕ, ◌+◌, ◌*◌, ◌≤◌}
use mathlib.Core.Path.{◌≡◌}
use lib.ListN.{get_or}
use Rattle.meaning.specs.Limits.{block_segments}
use Rattle.column_meaning.specs.Column.{pair_value}
use Rattle.meaning.specs.declared.Pairing.TheVariants.{DifferenceOrZero}
use Rattle.adder.proofs.Filling.{Filling}
use Rattle.adder.proofs.choose.difference_or_zero.Given as goal

abbrev pub invariant-loop-i : goal.invariant-loop-i
invariant-loop-i l =
    Filling (pair_value DifferenceOrZero) l.x l.y l.initial.z l.n l.i l.z
    × ((k : ℕ) → (l.i + 1) * block_segments ≤ k → get_or l.z k 0 ≡ get_or l.initial.z k 0)
