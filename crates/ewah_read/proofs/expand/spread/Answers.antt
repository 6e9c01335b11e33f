-- `ewah_read::expand::spread` meets its contract. The invariant: the walk stands at a marker with o segments behind;
-- these are written, and the words behind them are as they were.
-- Assumes nothing.
use borrow.Author.Rules.{rules}
use native.Mathlib.Omega.{arith}
use Prim.Native.Nat.{ℕ, ◌+◌, ◌-◌}
use mathlib.Core.Path.{◌≡◌, sym, ap, ap₂, ◌∙◌}
use mathlib.Core.List.{List, ◌++◌}
use lib.ListN.{length, take, drop, replicate}
use lib.Seq.{take-length, length-take-le}
use Rattle.meaning.specs.Ewah.{segments}
use Rattle.laws.proofs.Parts.{replace-part}
use Rattle.meaning.specs.Segment.{fill}
use Rattle.ewah.proofs.Taking.{left-none, left-step, left_words, left-next}
use Rattle.ewah_read.proofs.expand.spread.Goals as goal

pub slice_bounds-place-end : goal.slice_bounds-place-end
slice_bounds-place-end c =
    omega (arith, (left-step c.loop-m.invariant.0 c.in-Some.ensures.steps).counts, c.in-Some.ensures.steps.all)

pub loop-m-preserved : goal.loop-m-preserved
loop-m-preserved c =
    let m = c.in-Some.m in
    let d = c.in-Some.dirty.now in
    let f = c.in-Some.ensures.steps in
    let h = c.loop-m in
    let t = left-step h.invariant.0 f in
    let b = c.args.body.now in
    let l = c.args.out.now in
    let o = h.o in
    let end = o + m.clean + m.dirty in
    let its : c.place.new.out ≡ replicate m.clean (fill 32 m.value) ++ take m.dirty (drop (h.invariant.0.at + 1) b) =
    c.place.ensures ∙ ap (λ (ws : List ℕ). replicate m.clean (fill 32 m.value) ++ ws) (sym (left_words h.invariant.0 f)) in
    rw f.all (
      left-next h.invariant.0 f,
      search rules ∙ h.invariant.1,
      ap₂ (λ (xs ys : List ℕ). take o xs ++ (ys ++ drop (end - o) (drop o xs))) h.invariant.2 its
          ∙ replace-part (take o (segments b)) l _ o end (length-take-le o (segments b) (omega arith)) (omega arith)
          ∙ ap (λ (xs : List ℕ). xs ++ drop end l) (sym t.more),
    )

pub returns : goal.returns
returns c =
    let b = c.args.body.now in
    let l = c.args.out.now in
    let h = c.loop-m in
    h.invariant.2
    ∙ ap (λ (o : ℕ). take o (segments b) ++ drop o l) (left-none h.invariant.0 c.in-None.ensures.steps.0)
    ∙ ap (λ (s : List ℕ). s ++ drop (length (segments b)) l) (take-length (segments b))
