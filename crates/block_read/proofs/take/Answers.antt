-- `block_read::take` meets its contract: it is one of the two calls, and `row-taken` makes a row of the spans.
-- Assumes nothing.
use mathlib.Core.Path.{◌∙◌}
use lib.Seq.{length-take-le}
use native.Mathlib.Omega.{arith}
use Rattle.block_read.proofs.Joining.{row-taken}
use Rattle.block_read.proofs.take.Goals as goal

pub returns : goal.returns
returns c =
    let a = c.args in
    let r = c.take_spans in
    let few = c.requires.row_len.3 c.if-even.false in
    let long = length-take-le a.n a.row.now (omega (arith, few)) in
    rw (← c.if-even.false) at (row-taken a.format a.body.now a.c a.n r.result a.row.now r.new.row few (omega (arith, few)) (r.auto.row ∙ long)
    (rw long at r.ensures))
