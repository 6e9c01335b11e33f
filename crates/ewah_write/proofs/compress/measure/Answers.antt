-- `ewah_write::compress::measure` meets its contract: the writer tracks the draft so far. Assumes nothing.
use mathlib.Core.Path.{sym, ap, ◌∙◌}
use native.Mathlib.Omega.{arith}
use borrow.Author.Tests.{true-eqb, false-eqb}
use lib.ListN.{length}
use Rattle.ewah_write.proofs.Growing.{used-is}
use Rattle.ewah_write.proofs.WordByWord.{no_words, word-inside, word-last, used_low}
use Rattle.ewah_write.proofs.compress.measure.Goals as goal

pub returns-then-is_empty : goal.returns-then-is_empty
returns-then-is_empty c =
    let none = true-eqb _ 0 (sym c.if-is_empty.true ∙ c.is_empty.ensures) in
    ap length (no_words c.args.rows c.args.plain.now none)

pub grow_segment-w-requires-clause-used_bound : goal.grow_segment-w-requires-clause-used_bound
grow_segment-w-requires-clause-used_bound c = used_low c.requires c.loop-x.x-index c.loop-x.auto.x-index-end (omega (arith, c.well_formed)) c.loop-x.invariant

pub loop-x-preserved : goal.loop-x-preserved
loop-x-preserved c =
    let e = word-inside c.requires c.loop-x.x-index c.loop-x-test.true in
    rw e (c.grow_segment-w.ensures _ c.loop-x.invariant)

pub grow_segment-requires-clause-used_bound : goal.grow_segment-requires-clause-used_bound
grow_segment-requires-clause-used_bound c = used_low c.requires c.loop-x.x-index c.loop-x.auto.x-index-end (omega (arith, c.well_formed)) c.loop-x.invariant

pub returns : goal.returns
returns c =
    let w = c.last_word-end in
    let x = c.loop-x in
    let some = false-eqb _ 0 (sym c.if-is_empty.false ∙ c.is_empty.ensures) in
    let done = word-last c.requires x.x-index some x.auto.x-index-end c.loop-x-test.false in
    used-is _ (c.grow_segment.ensures _ x.invariant) ∙ ap length (done w.result w.ensures)
