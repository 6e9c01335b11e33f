-- `block_read::take_even` meets its contract: `even-taken`.
-- Assumes nothing.
use Rattle.bodies.proofs.Advancing.{passes-one}
use Rattle.block_read.proofs.Joining.{even-taken}
use Rattle.block_read.proofs.take_even.Goals as goal

pub returns : goal.returns
returns c =
    let a = c.args in
    let p = c.requires.row_len in
    let go = passes-one a.format a.body.now a.c a.n p.1 p.2 c.advance.result c.advance.ensures in
    even-taken a.format a.body.now a.c a.n a.row.now _ c.advance.result p.0 c.word.ensures p.2 go
