-- `column::strays` meets its contract. The invariant: the slices from place i on give the list's verdict.
-- Assumes nothing.
use Prim.Native.Nat.{◌+◌}
use mathlib.Core.Path.{◌≡◌}
use lib.ListN.{get_or, drop}
use Rattle.meaning.specs.Index.{rows_at}
use Rattle.column_meaning.specs.Columns as meaning
use Rattle.column.proofs.strays.Given as goal

abbrev pub invariant-loop-k : goal.invariant-loop-k
invariant-loop-k l =
    meaning.strays l.index l.list ≡ meaning.strays_in l.index (rows_at l.index (get_or l.list 0 0)) (drop (l.k-index + 1) l.list)
