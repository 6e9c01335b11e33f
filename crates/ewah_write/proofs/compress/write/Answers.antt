-- `ewah_write::compress::write` meets its contract: the draft of the words passed is in the buffer. Assumes nothing.
use Prim.Native.Nat.{◌+◌}
use mathlib.Core.Path.{refl, sym, ap, ◌∙◌}
use mathlib.Core.List.{[], ◌∷◌}
use native.Mathlib.Omega.{arith}
use borrow.Author.Tests.{true-eqb, false-eqb}
use lib.ListN.{length, get_or}
use Rattle.meaning.specs.Segment.{kind, kinds}
use Rattle.meaning.specs.Canonical.{Draft, body}
use Rattle.laws.proofs.Prefixes.{up_to, up_to-within}
use Rattle.ewah_write.proofs.Growing.{used-is}
use Rattle.ewah_write.proofs.Pushing.{written_none, written-more, written_all}
use Rattle.ewah_write.proofs.WordByWord.{no_words, word-inside, word-last}
use Rattle.ewah_write.proofs.compress.write.Goals as goal

pub returns-then-is_empty-clause-value : goal.returns-then-is_empty-clause-value
returns-then-is_empty-clause-value c =
    let e = no_words c.args.rows c.args.plain.now (true-eqb _ 0 (sym c.if-is_empty.true ∙ c.is_empty.ensures)) in
    ap length e

pub returns-then-is_empty-clause-out_after : goal.returns-then-is_empty-clause-out_after
returns-then-is_empty-clause-out_after c =
    let e = no_words c.args.rows c.args.plain.now (true-eqb _ 0 (sym c.if-is_empty.true ∙ c.is_empty.ensures)) in
    rw (← e) refl

pub loop-x-init : goal.loop-x-init
loop-x-init c = (refl, written_none c.args.out.now c.start-w.result c.start-w.ensures)

pub push_segment-w-requires : goal.push_segment-w-requires
push_segment-w-requires c =
    let x = c.loop-x in
    let all = kinds 32 c.args.rows c.args.plain.now in
    let e = word-inside c.requires.plain_rows x.x-index c.loop-x-test.true in
    (up_to all x.x-index, x.invariant.1.drawn.tracks, omega (arith, ap (λ (d : Draft). length (body d)) e, up_to-within all (x.x-index + 1), c.requires.plain_in_bounds, x.invariant.0))

pub loop-x-preserved : goal.loop-x-preserved
loop-x-preserved c =
    let p = c.push_segment-w in
    let x = c.loop-x in
    let e = word-inside c.requires.plain_rows x.x-index c.loop-x-test.true in
    (p.auto.out ∙ x.invariant.0, rw e (written-more c.args.out.now x.out p.new.out x.w p.result _ (kind 32 (get_or _ x.x-index 0) ∷ []) x.invariant.1 p.ensures))

pub push_segment-requires : goal.push_segment-requires
push_segment-requires c =
    let x = c.loop-x in
    let some = false-eqb _ 0 (sym c.if-is_empty.false ∙ c.is_empty.ensures) in
    let done = word-last c.requires.plain_rows x.x-index some x.auto.x-index-end c.loop-x-test.false c.last_word-end.result c.last_word-end.ensures in
    (up_to (kinds 32 c.args.rows c.args.plain.now) x.x-index, x.invariant.1.drawn.tracks, omega (arith, ap length done, c.requires.plain_in_bounds, x.invariant.0))

pub returns-clause-value : goal.returns-clause-value
returns-clause-value c =
    let p = c.push_segment in
    let x = c.loop-x in
    let end = c.last_word-end.result in
    let some = false-eqb _ 0 (sym c.if-is_empty.false ∙ c.is_empty.ensures) in
    let done = word-last c.requires.plain_rows x.x-index some x.auto.x-index-end c.loop-x-test.false end c.last_word-end.ensures in
    let g = written-more c.args.out.now x.out p.new.out x.w p.result _ (kind 32 end ∷ []) x.invariant.1 p.ensures in
    used-is _ g.drawn.tracks ∙ ap length done

pub returns-clause-out_after : goal.returns-clause-out_after
returns-clause-out_after c =
    let p = c.push_segment in
    let x = c.loop-x in
    let end = c.last_word-end.result in
    let some = false-eqb _ 0 (sym c.if-is_empty.false ∙ c.is_empty.ensures) in
    let done = word-last c.requires.plain_rows x.x-index some x.auto.x-index-end c.loop-x-test.false end c.last_word-end.ensures in
    let g = written-more c.args.out.now x.out p.new.out x.w p.result _ (kind 32 end ∷ []) x.invariant.1 p.ensures in
    rw (← done) (written_all _ _ _ _ g)
