-- `rewrite::expand::put` meets its contract: in each case of the piece that of `put_run` or `put_word` is its own.
-- Assumes nothing.
use Rattle.repack.proofs.RowsPut.{put_same}
use Rattle.row_write.proofs.Walking.{rows-kept}
use Rattle.rewrite.proofs.expand.put.Goals as goal

pub returns-in-Clean : goal.returns-in-Clean
returns-in-Clean c = rw c.in-Clean.is c.put_run.ensures

pub returns-in-Dirty : goal.returns-in-Dirty
returns-in-Dirty c =
    let k = c.args.k in
    let e = c.lowest.ensures in
    rw c.in-Dirty.is (put_same (λ j h. rows-kept _ _ k j e h) c.put_word.ensures)
