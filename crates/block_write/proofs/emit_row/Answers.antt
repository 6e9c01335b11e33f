-- `block_write::emit_row` meets its contract: the segments of its row are those that the way taken emits.
-- Assumes nothing.
use mathlib.Core.Path.{subst}
use mathlib.Core.List.{map}
use lib.ListN.{length}
use Rattle.meaning.specs.Segment.{mixed}
use Rattle.meaning.specs.declared.Format.{Format}
use Rattle.body_write.specs.Bodies.{RoomFor}
use Rattle.block_write.proofs.Rowing.{row-mixed}
use Rattle.block_write.proofs.emit_row.Goals as goal

pub emit_mixed-requires-clause-room_for : goal.emit_mixed-requires-clause-room_for
emit_mixed-requires-clause-room_for c =
    λ e.
    let a = c.args in
    let j = c.joins.ensures c.if-joins.true in
    let is = row-mixed a.format a.words.now a.n c.if-not-even.true j.0 j.2 in
    subst (λ (F : Format). RoomFor F (map mixed a.words.now) a.w (length a.out.now)) j.0 (rw is at (c.requires.room_for e))

pub returns-then-joins : goal.returns-then-joins
returns-then-joins c =
    λ real e.
    let a = c.args in
    let j = c.joins.ensures c.if-joins.true in
    rw (row-mixed a.format a.words.now a.n c.if-not-even.true j.0 j.2, j.0) (c.emit_mixed.ensures real)
