-- `histograms::histogram_over` meets its contract. The invariant: the cursors are on their way at segment o, and the
-- counts are the histogram of the first o segments.
-- Assumes nothing.
use Prim.Native.Nat.{ℕ}
use mathlib.Core.Path.{◌∙◌, ap}
use native.Mathlib.Omega.{arith}
use lib.ListN.{length-replicate, get_or-replicate}
use Rattle.meaning.specs.Limits.{histogram_counts}
use Rattle.meaning.specs.Format as format
use Rattle.meaning.specs.Index.{format_of}
use Rattle.laws.proofs.Formats.{width-le}
use Rattle.merge.proofs.Along.{laid, laid-total, along-none, next-stretch, mask-of}
use Rattle.histograms.proofs.Histograms.{counting-none, counting_more, counting-all, entries-low}
use Rattle.histograms.proofs.histogram_over.Goals as goal

pub loop-o-init : goal.loop-o-init
loop-o-init c =
    let long = c.«open».ensures.0 ∙ c.requires.cursors_len in
    let su = rw long at c.all-s.ensures in record {
      laid = laid c.of-frame.ensures c.format.ensures c.rows.ensures;
      counting = counting-none (along-none c.«open».ensures.1 long su)
          (length-replicate {A = ℕ} histogram_counts 0) (λ k h. get_or-replicate {A = ℕ} histogram_counts k 0 0 h);
    }

pub overflow_add-end : goal.overflow_add-end
overflow_add-end c =
    let l = c.loop-o.invariant in
    omega (arith, (next-stretch l.counting.along l.laid c.requires.walkable c.loop-o-test.true).few)

pub count_stretch-requires : goal.count_stretch-requires
count_stretch-requires c =
    let l = c.loop-o.invariant in
    let n = next-stretch l.counting.along l.laid c.requires.walkable c.loop-o-test.true in
    let w = c.of-frame.result.width_is ∙ ap format.width l.laid.format-is in (
      n.held_low,
      n.is.some,
      omega (arith, n.few),
      omega (arith, w, width-le (format_of c.args.index.now)),
      l.counting.long,
      entries-low l.counting c.requires.walkable.facts.head.few-rows,
      n.counts-low,
    )

pub advance-s-requires-clause-cursors_len : goal.advance-s-requires-clause-cursors_len
advance-s-requires-clause-cursors_len c =
    let l = c.loop-o.invariant in
    let a = l.counting.along in
    let n = next-stretch a l.laid c.requires.walkable c.loop-o-test.true in
    (omega (arith, a.long), n.is.some, λ k h. (n.left-each k h, (a.standing k h).in_order))

pub loop-o-smaller : goal.loop-o-smaller
loop-o-smaller c =
    let l = c.loop-o.invariant in
    omega (arith, (next-stretch l.counting.along l.laid c.requires.walkable c.loop-o-test.true).is.some, c.loop-o-test.true)

pub loop-o-preserved : goal.loop-o-preserved
loop-o-preserved c =
    let l = c.loop-o.invariant in
    let n = next-stretch l.counting.along l.laid c.requires.walkable c.loop-o-test.true in
    let w = c.of-frame.result.width_is ∙ ap format.width l.laid.format-is in record {
      laid = l.laid;
      counting = counting_more l.counting n (mask-of n l.laid c.mask-mask.ensures) (c.count_stretch.ensures (format_of c.args.index.now) w) c.advance-s.ensures;
    }

pub returns : goal.returns
returns c =
    let l = c.loop-o.invariant in
    counting-all l.counting (omega (arith, laid-total l.laid, c.loop-o-test.false))
