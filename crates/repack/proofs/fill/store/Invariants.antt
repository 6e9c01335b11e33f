-- `repack::fill::store` meets its contract. The invariant: the words before i are as they are to be. Assumes nothing.
use Prim.Native.Nat.{◌-◌, ◌≤◌}
use mathlib.Core.Path.{◌≡◌}
use lib.ListN.{length}
use Rattle.repack.specs.Filling.{Stored}
use Rattle.repack.proofs.fill.store.Given as goal

abbrev pub invariant-loop-i : goal.invariant-loop-i
invariant-loop-i l = (l.from ≤ l.i) × (l.i ≤ l.to) × (length l.out ≡ length l.initial.out) × Stored l.x l.from l.initial.out l.out l.i
