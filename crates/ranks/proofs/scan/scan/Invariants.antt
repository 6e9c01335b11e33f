-- `ranks::scan::scan` meets its contract. The invariant: the rows of the first o segments are counted, and are not as many as were to be
-- found, unless there are no segments.
-- Assumes nothing.
use Prim.Native.Nat.{◌-◌, ◌≤◌, ◌<◌}
use mathlib.Core.Path.{◌≡◌}
use lib.ListN.{length}
use Rattle.meaning.specs.Rows.{count_below}
use Rattle.ranks.specs.Found.{rows_level}
use Rattle.ranks.proofs.Along.{Along, rows_before}
use Rattle.ranks.proofs.scan.scan.Given as goal

abbrev pub invariant-loop-o : goal.invariant-loop-o
invariant-loop-o l =
    Along l.index l.list l.cursors l.x l.o × (l.total ≡ count_below (rows_before l.index l.o) (rows_level l.index l.list l.value))
    × (l.total ≤ l.most) × (0 < l.o → l.total < l.most) × (length l.cursors ≡ length l.list)

abbrev pub decreases-loop-o : goal.decreases-loop-o
decreases-loop-o l = l.f.segments - l.o
