-- `column::outside::first` meets its contract. The invariant `Going`: both cursors stand at segment o, and no row
-- before it is in the slice alone.
-- Assumes nothing.
use Prim.Native.Nat.{◌-◌}
use Rattle.column.proofs.Going.{Going}
use Rattle.column.proofs.outside.first.Given as goal

abbrev pub invariant-loop-o : goal.invariant-loop-o
invariant-loop-o l = Going l.format l.slice l.exists l.count l.c l.e l.o

abbrev pub decreases-loop-o : goal.decreases-loop-o
decreases-loop-o l = l.count - l.o
