-- `column::signed_value` meets its contract. The invariant: v is the signed value of the slices from
-- place i on.
-- Assumes nothing.
use Prim.Native.Nat.{◌≤◌, ◌<◌}
use mathlib.Core.Path.{◌≡◌}
use lib.ListN.{length}
use Rattle.column.proofs.Columns.{signed_from}
use Rattle.column.proofs.signed_value.Given as goal

abbrev pub invariant-loop-i : goal.invariant-loop-i
invariant-loop-i l = (1 ≤ l.i) × (l.i < length l.list) × (l.v ≡ signed_from l.index l.list l.row l.i)
