-- `column::value` meets its contract. The invariant: v is the value of the slices from place i on.
-- Assumes nothing.
use Prim.Native.Nat.{◌-◌, ◌^◌, ◌≤◌, ◌<◌}
use mathlib.Core.Path.{◌≡◌}
use lib.ListN.{length}
use Rattle.column.proofs.Columns.{value_from}
use Rattle.column.proofs.value.Given as goal

abbrev pub invariant-loop-i : goal.invariant-loop-i
invariant-loop-i l = (1 ≤ l.i) × (l.i ≤ length l.list) × (l.v < 2 ^ (length l.list - l.i)) × (l.v ≡ value_from l.index l.list l.row l.i)
