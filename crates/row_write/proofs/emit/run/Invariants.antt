-- `row_write::emit::run` meets its contract. The invariant: all but the last `left` segments are emitted.
-- Assumes nothing.
use Prim.Native.Nat.{◌-◌, ◌≤◌}
use mathlib.Core.Bool.{true}
use mathlib.Core.Path.{◌≡◌}
use lib.ListN.{length, replicate}
use Rattle.meaning.specs.Segment.{clean}
use Rattle.meaning.specs.Format.{width}
use Rattle.body_write.specs.Bodies.{Growing, RoomFor, Emitted}
use Rattle.row_write.proofs.emit.run.Given as goal

abbrev pub invariant-loop-left : goal.invariant-loop-left
invariant-loop-left g l =
    (l.left ≤ l.n) × Growing l.format l.v l.left × (g.S.Sink.stores ≡ true → RoomFor l.format (replicate l.left (clean l.value)) l.v (length (g.S.Sink.words l.out)))
    × (length (g.S.Sink.words l.out) ≡ length (g.S.Sink.words l.initial.out)) × (g.S.Sink.name l.out ≡ g.S.Sink.name l.initial.out) × Emitted l.format (width l.format) (g.S.Sink.words l.initial.out) (g.S.Sink.words l.out) l.initial.v (replicate (l.n - l.left) (clean l.value)) g.S.Sink.stores l.v

abbrev pub decreases-loop-left : goal.decreases-loop-left
decreases-loop-left g l = l.left
