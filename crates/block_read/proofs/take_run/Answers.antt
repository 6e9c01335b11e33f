-- `block_read::take_run` meets its contract: `run-taken`.
-- Assumes nothing.
use Rattle.block_read.proofs.Joining.{run-taken}
use Rattle.block_read.proofs.take_run.Goals as goal

pub returns : goal.returns
returns c =
    let p = c.requires.piece_value in
    let filled = c.fill.ensures.after (λ y e. e) in
    run-taken _ _ _ _ _ _ _ _ p.0 p.2 (rw c.segment.ensures at filled) (rw c.fill.ensures.len at c.pass.ensures)
