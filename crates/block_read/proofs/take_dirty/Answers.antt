-- `block_read::take_dirty` meets its contract: `dirty-taken`, since the words are there (`words-there`).
-- Assumes nothing.
use lib.ListN.{length}
use Rattle.bodies.proofs.Spans.{word_held, words-there}
use Rattle.block_read.proofs.Joining.{dirty-taken}
use native.Mathlib.Omega.{arith}
use Rattle.block_read.proofs.take_dirty.Goals as goal

pub slice_bounds-copy-end : goal.slice_bounds-copy-end
slice_bounds-copy-end c =
    let a = c.args in
    let h = c.requires.has_ahead in
    let p = c.requires.by_index in
    let one = (word_held a.format a.body.now a.c c.requires.in_order _ p.0.1).0 in
    let there = words-there a.format a.body.now h.0 a.c h.1 _ p.0.1 (length a.row.now) c.requires.in_order p.1 p.2 h.2 in
    omega (arith, one, there)

pub returns : goal.returns
returns c =
    let a = c.args in
    let h = c.requires.has_ahead in
    let p = c.requires.by_index in
    let there = words-there a.format a.body.now h.0 a.c h.1 _ p.0.1 (length a.row.now) c.requires.in_order p.1 p.2 h.2 in
    dirty-taken _ _ _ _ _ _ _ p.0.1 c.requires.in_order p.2 there
    _ (omega arith) c.copy.ensures.after (rw c.copy.ensures.len at c.pass.ensures)
