-- `rewrite::compress::write` meets its contract: the segments passed are in the buffer. Assumes nothing.
use mathlib.Core.Bool.{true}
use mathlib.Core.Path.{refl}
use native.Mathlib.Omega.{arith}
use Rattle.meaning.specs.Segment.{has_row}
use Rattle.body_write.proofs.Emitting.{emitted-stored}
use Rattle.row_write.proofs.Sending.{sent-start, sent-room, sent-on, sent-words, sent-all}
use Rattle.rewrite.proofs.Compressing.{count, next-of, mask-of}
use Rattle.rewrite.proofs.compress.write.Goals as goal

pub loop-i-init : goal.loop-i-init
loop-i-init c =
    sent-start c.args.format c.args.rows (has_row 32 c.args.plain.now) c.args.out.now true
    c.start-w.result c.requires.plain_rows.few (λ e. c.requires.plain_in_bounds) c.start-w.ensures

pub push_segment-w-requires : goal.push_segment-w-requires
push_segment-w-requires c =
    let next = next-of _ _ (has_row 32 c.args.plain.now) c.of-frame.result c.of-frame.ensures c.loop-i.i c.word_at.result c.loop-i-test.true c.word_at.ensures in
    sent-room c.loop-i.invariant _ next refl

pub loop-i-preserved : goal.loop-i-preserved
loop-i-preserved c =
    let push = c.push_segment-w in
    let i = c.loop-i.i in
    let q = has_row 32 c.args.plain.now in
    let next = next-of _ _ q c.of-frame.result c.of-frame.ensures i c.word_at.result c.loop-i-test.true c.word_at.ensures in
    let real = mask-of _ _ q c.of-frame.result c.of-frame.ensures i c.mask-mask.result (c.mask-mask.ensures (omega arith) (omega arith)) in
    sent-on c.loop-i.invariant _ _ push.new.out push.result next refl push.auto.out (emitted-stored refl (push.ensures _ real))

pub returns-clause-value : goal.returns-clause-value
returns-clause-value c =
    let all = count c.args.format c.args.rows (has_row 32 c.args.plain.now) c.of-frame.result c.of-frame.ensures in
    let words = sent-words c.loop-i.invariant (omega (arith, c.loop-i-test.false, all, c.loop-i.invariant.within)) in
    words

pub returns-clause-out_after : goal.returns-clause-out_after
returns-clause-out_after c =
    let all = count c.args.format c.args.rows (has_row 32 c.args.plain.now) c.of-frame.result c.of-frame.ensures in
    let words = sent-words c.loop-i.invariant (omega (arith, c.loop-i-test.false, all, c.loop-i.invariant.within)) in
    rw words (sent-all c.loop-i.invariant (omega (arith, c.loop-i-test.false, all, c.loop-i.invariant.within)) refl)
