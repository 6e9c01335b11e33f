-- `column::outside::find` meets its contract. The invariant: the words before i have no row that is looked for.
-- Assumes nothing.
use Prim.Native.Nat.{ℕ, ◌*◌}
use mathlib.Core.Bool.{Bool}
use lib.ListN.{length, get_or}
use Rattle.column.specs.Outside.{Spells, NoneBelow}
use Rattle.column.proofs.outside.find.Given as goal

abbrev pub invariant-loop-i : goal.invariant-loop-i
invariant-loop-i l =
    (p : ℕ → Bool) → Spells l.width p (λ k. get_or l.slice k 0) (λ k. get_or l.exists k 0) (length l.slice) → NoneBelow (l.i * l.width) p
