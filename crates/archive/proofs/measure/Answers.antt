-- `archive::measure` meets its contract: after k rounds the words are those before body k of the new index.
-- Assumes nothing.
use Prim.Native.Nat.{ℕ, ◌+◌}
use mathlib.Core.Path.{◌≡◌, ◌∙◌}
use Rattle.meaning.specs.Index.{bitmap_count, body_place}
use Rattle.archive.specs.Anew.{anew}
use Rattle.archive.proofs.Renewed.{new-place, new-next, new-end, new-low}
use native.Mathlib.Omega.{arith}
use Rattle.archive.proofs.measure.Goals as goal

pub loop-k-init : goal.loop-k-init
loop-k-init c =
    let n = c.bitmaps-n in
    c.entry_place-need.ensures.0 ∙ new-place c.args.index.now c.args.to c.requires n.result n.ensures

pub overflow_add-need : goal.overflow_add-need
overflow_add-need c =
    let index = c.args.index.now in
    let k = c.loop-k.k in
    let e = new-next index c.args.to c.requires k (omega (arith, c.loop-k-test.true, c.bitmaps-n.ensures)) in
    let low = new-low index c.args.to c.requires (k + 1) (omega (arith, c.loop-k-test.true, c.bitmaps-n.ensures)) in
    record { fits = omega (arith, c.loop-k.invariant, c.put_body-need.ensures.rewritten.words_are, e, low) }

pub loop-k-preserved : goal.loop-k-preserved
loop-k-preserved c =
    let index = c.args.index.now in
    let e = new-next index c.args.to c.requires c.loop-k.k (omega (arith, c.loop-k-test.true, c.bitmaps-n.ensures)) in
    omega (arith, c.loop-k.invariant, c.put_body-need.ensures.rewritten.words_are, e)

pub returns : goal.returns
returns c =
    let index = c.args.index.now in
    let e : c.loop-k.k ≡ bitmap_count index = omega (arith, c.loop-k.auto.k-end, c.loop-k-test.false, c.bitmaps-n.ensures) in
    c.loop-k.invariant ∙ new-end index c.args.to c.requires c.loop-k.k e
