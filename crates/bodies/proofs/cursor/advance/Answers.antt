-- `bodies::cursor::advance` meets its contract: `run-shorter` where the run goes on; `run-over` and `dirty-over` where the
-- next piece is loaded.
-- Assumes nothing.
use Rattle.bodies.proofs.Advancing.{run-shorter, run-over, dirty-over}
use Rattle.bodies.proofs.cursor.advance.Goals as goal
use Rattle.bodies.proofs.cursor.advance.Goals.{in-Clean+else-n-k, in-Dirty}

pub returns-then-n-k : goal.returns-then-n-k
returns-then-n-k c =
    run-shorter c.args.format c.args.body.now c.args.c c.args.n c.requires.le_n c.requires.n_bound c.requires.in_order
    _ _ c.in-Clean.is c.if-n-k.true

pub returns : goal.returns
returns c =
    let F = c.args.format in
    let b = c.args.body.now in
    elim c.match-c.branch [
      | in-Clean+else-n-k w ↦
          run-over F b c.args.c c.args.n c.requires.le_n c.requires.n_bound _ _ c.load.result w.in-Clean.is w.if-n-k.false c.load.ensures
      | in-Dirty w ↦
          dirty-over F b c.args.c c.args.n c.requires.le_n c.requires.n_bound _ c.load.result w.in-Dirty.is c.load.ensures
    ]
