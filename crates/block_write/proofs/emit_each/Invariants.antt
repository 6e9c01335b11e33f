-- `block_write::emit_each` meets its contract. The invariant: the first words are emitted, by whole segments.
-- Assumes nothing.
use mathlib.Core.Path.{◌≡◌}
use mathlib.Core.List.{map}
use lib.ListN.{length, take}
use Rattle.meaning.specs.Segment.{kind}
use Rattle.meaning.specs.Format.{width}
use Rattle.body_write.specs.Bodies.{Emitted}
use Rattle.block_write.proofs.emit_each.Given as goal

abbrev pub invariant-loop-x : goal.invariant-loop-x
invariant-loop-x l = (length l.out ≡ length l.initial.out)
    × Emitted l.format (width l.format) l.initial.out l.out l.initial.v (map (kind (width l.format)) (take l.x-index l.words)) l.store l.v
