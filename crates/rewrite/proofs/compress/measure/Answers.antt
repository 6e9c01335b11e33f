-- `rewrite::compress::measure` meets its contract: the writer stands for the segments passed. Assumes nothing.
use mathlib.Core.Path.{refl}
use mathlib.Core.List.{[]}
use native.Mathlib.Omega.{arith}
use Rattle.meaning.specs.Segment.{has_row}
use Rattle.body_write.proofs.Emitting.{emitted-measured}
use Rattle.row_write.proofs.Sending.{sent-growing, sent-on, sent-words}
use Rattle.rewrite.proofs.Compressing.{count, next-of}
use Rattle.rewrite.proofs.compress.measure.Goals as goal

pub grow_segment-w-requires : goal.grow_segment-w-requires
grow_segment-w-requires c =
    let all = count c.args.format c.args.rows (has_row 32 c.args.plain.now) c.of-frame.result c.of-frame.ensures in
    sent-growing c.loop-i.invariant 1 (omega (arith, c.loop-i-test.true, all))

pub loop-i-preserved : goal.loop-i-preserved
loop-i-preserved c =
    let next = next-of _ _ (has_row 32 c.args.plain.now) c.of-frame.result c.of-frame.ensures c.loop-i.i c.word_at.result c.loop-i-test.true c.word_at.ensures in
    sent-on c.loop-i.invariant _ _ [] c.grow_segment-w.result next refl refl (emitted-measured refl c.grow_segment-w.ensures)

pub returns : goal.returns
returns c =
    let all = count c.args.format c.args.rows (has_row 32 c.args.plain.now) c.of-frame.result c.of-frame.ensures in
    sent-words c.loop-i.invariant (omega (arith, c.loop-i-test.false, all, c.loop-i.invariant.within))
