-- `gather::gather` meets its contract. The invariant: the first k places are gathered.
-- Assumes nothing.
use native.Mathlib.Omega.{arith}
use Rattle.gather.proofs.Gathering.{gathering-more}
use Rattle.gather.proofs.gather.Goals as goal

pub loop-k-preserved : goal.loop-k-preserved
loop-k-preserved c =
    let l = c.loop-k in
    let a = c.args in
    let r = c.requires.cursors_len in
    let m = c.take_place in
    gathering-more a.format a.index.now a.list.now a.cursors.now a.n a.even a.x.now l.k l.cursors l.x l.invariant
    (omega (arith, c.loop-k-test.true, l.invariant.long, r.0)) r.5 m.new.c m.new.x m.ensures
