-- `block_write::emit_apart` meets its contract: the segments of its row are those that the way taken emits.
-- Assumes nothing.
use Rattle.block_write.proofs.Rowing.{row-even, row-each}
use Rattle.block_write.proofs.emit_apart.Goals as goal

pub emit_even-requires-clause-room_for : goal.emit_even-requires-clause-room_for
emit_even-requires-clause-room_for c =
    let is = row-even c.args.format c.args.words.now c.args.n c.if-even.true in
    λ e. rw is at (c.requires.room_for e)

pub returns-then-even : goal.returns-then-even
returns-then-even c =
    λ real e. rw (row-even c.args.format c.args.words.now c.args.n c.if-even.true) (c.emit_even.ensures real e)

pub emit_each-requires-clause-room_for : goal.emit_each-requires-clause-room_for
emit_each-requires-clause-room_for c =
    let is = row-each c.args.format c.args.words.now c.args.n c.if-even.false in
    λ e. rw is at (c.requires.room_for e)

pub returns : goal.returns
returns c = λ real e. rw (row-each c.args.format c.args.words.now c.args.n c.if-even.false) (c.emit_each.ensures real e)
