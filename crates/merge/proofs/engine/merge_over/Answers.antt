-- `merge::engine::merge_over` meets its contract. The invariant: the cursors are on their way at segment o, and the writer
-- has put the answer's first o segments.
-- Assumes nothing.
use mathlib.Core.Path.{subst, ◌∙◌}
use mathlib.Core.List.{[]}
use native.Mathlib.Omega.{arith}
use Rattle.meaning.specs.declared.Format.{Format}
use Rattle.meaning.specs.Index.{format_of}
use Rattle.body_write.specs.Bodies.{Stands}
use Rattle.merge.proofs.Along.{laid, laid-total, laid-full, along-none, next-stretch, mask-of}
use Rattle.merge.proofs.Merging.{merging-none, merging-more, merging-all, steps_low, may-emit}
use Rattle.merge.proofs.engine.merge_over.Goals as goal

pub loop-o-init : goal.loop-o-init
loop-o-init c =
    let d = laid c.of-frame.ensures c.format.ensures c.rows.ensures in
    let long = c.«open».ensures.0 ∙ c.requires.cursors_len in
    let su = rw long at c.all-s.ensures in record {
      laid = d;
      merging = merging-none (along-none c.«open».ensures.1 long su)
          (subst (λ (F : Format). Stands F c.start-w.result []) d.format-is c.start-w.ensures);
    }

pub overflow_add-end : goal.overflow_add-end
overflow_add-end c =
    let l = c.loop-o.invariant in
    omega (arith, (next-stretch l.merging.along l.laid c.requires.mergeable.walkable c.loop-o-test.true).few)

pub evaluate-part-requires : goal.evaluate-part-requires
evaluate-part-requires c =
    let l = c.loop-o.invariant in
    let n = next-stretch l.merging.along l.laid c.requires.mergeable.walkable c.loop-o-test.true in
    (c.requires.mergeable.few-entries, n.held_low, n.counts-low)

pub emit-w-requires : goal.emit-w-requires
emit-w-requires c =
    let l = c.loop-o.invariant in
    let n = next-stretch l.merging.along l.laid c.requires.mergeable.walkable c.loop-o-test.true in
    let e = c.evaluate-part.ensures (format_of c.args.index.now) (laid-full l.laid) in
    let both = may-emit l.merging n (mask-of n l.laid c.mask-mask.ensures) e l.laid.format-is c.requires.table_in_bounds in
    record { growing = both.0; part_low = both.1.0; room_for = both.1.1 }

pub advance-s-requires-clause-cursors_len : goal.advance-s-requires-clause-cursors_len
advance-s-requires-clause-cursors_len c =
    let l = c.loop-o.invariant in
    let a = l.merging.along in
    let n = next-stretch a l.laid c.requires.mergeable.walkable c.loop-o-test.true in
    (omega (arith, a.long), n.is.some, λ k h. (n.left-each k h, (a.standing k h).in_order))

pub overflow_add-stretches : goal.overflow_add-stretches
overflow_add-stretches c =
    let l = c.loop-o.invariant in
    let n = next-stretch l.merging.along l.laid c.requires.mergeable.walkable c.loop-o-test.true in
    omega (arith, steps_low l.merging, n.few)

pub loop-o-smaller : goal.loop-o-smaller
loop-o-smaller c =
    let l = c.loop-o.invariant in
    let n = next-stretch l.merging.along l.laid c.requires.mergeable.walkable c.loop-o-test.true in
    omega (arith, n.is.some, c.loop-o-test.true)

pub loop-o-preserved : goal.loop-o-preserved
loop-o-preserved c =
    let l = c.loop-o.invariant in
    let n = next-stretch l.merging.along l.laid c.requires.mergeable.walkable c.loop-o-test.true in
    let e = c.evaluate-part.ensures (format_of c.args.index.now) (laid-full l.laid) in record {
      laid = l.laid;
      merging = merging-more l.merging n (mask-of n l.laid c.mask-mask.ensures) e l.laid.format-is c.emit-w.ensures c.emit-w.auto.out c.advance-s.ensures;
    }

pub returns : goal.returns
returns c =
    let l = c.loop-o.invariant in
    merging-all l.merging (omega (arith, laid-total l.laid, c.loop-o-test.false))
