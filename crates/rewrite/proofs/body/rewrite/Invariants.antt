-- `rewrite::body::rewrite` meets its contract. The invariant: the cursor stands behind the rows that were put.
-- Assumes nothing.
use Prim.Native.Nat.{◌-◌, ◌≤◌, ◌<◌}
use mathlib.Core.Path.{◌≡◌}
use lib.ListN.{length}
use Rattle.meaning.specs.Format.{width, rows_of}
use Rattle.row_write.specs.Packing.{Packed}
use Rattle.row_write.proofs.Walking.{At}
use Rattle.rewrite.proofs.body.rewrite.Given as goal

abbrev pub invariant-loop-left : goal.invariant-loop-left
invariant-loop-left g l =
    At l.from l.rows l.body l.c l.left × (l.left ≤ l.rows) × (l.o.packer.have < width l.to)
    × (g.S.Sink.name l.out ≡ g.S.Sink.name l.initial.out) × (length (g.S.Sink.words l.out) ≡ length (g.S.Sink.words l.initial.out))
    × Packed l.to l.rows (rows_of l.from l.body) (g.S.Sink.words l.initial.out) g.S.Sink.stores (g.S.Sink.words l.out) (l.rows - l.left) l.o

abbrev pub decreases-loop-left : goal.decreases-loop-left
decreases-loop-left g l = l.left
