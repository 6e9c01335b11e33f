-- `gather::take_place` meets its contract: by `row-of-block` the row, put back into the block, is its row.
-- Assumes nothing.
use mathlib.Core.Path.{refl}
use native.Mathlib.Omega.{arith}
use Prim.Native.Nat.{◌*◌}
use Rattle.meaning.specs.Limits.{block_segments}
use Rattle.meaning.specs.Index.{body_at}
use Rattle.block_read.proofs.Joining.{row-of-block}
use Rattle.gather.proofs.take_place.Goals as goal

pub returns : goal.returns
returns c =
    let a = c.args in
    let p = c.requires.b_bound in
    let t = c.take-d in
    let taken = rw c.body.ensures.result_value at t.ensures in
    row-of-block a.format (body_at a.index.now a.b) a.c.now a.n t.result a.even a.x.now t.new.row (a.k * block_segments) _ refl
    (omega (arith, p.1, p.2)) p.5 taken
