-- `wah_read::row::locate` meets its contract. The invariant is `Seeks`: the walk stands at a word, and the segment is so many ahead.
-- Assumes nothing.
use native.Mathlib.Omega.{arith}
use Prim.Native.Nat.{ℕ, ◌+◌, ◌-◌}
use mathlib.Core.Path.{◌≡◌, sym, ap, ◌∙◌, subst}
use lib.ListN.{get_or}
use Rattle.meaning.specs.Segment.{fill}
use Rattle.meaning.specs.Wah.{wah_segments, wah_pieces}
use Rattle.extent.specs.Place.{PlaceOf}
use Rattle.wah.proofs.Spelled.{fill-size, literal-size, spelled-fill, spelled-literal}
use Rattle.wah_read.proofs.Locating.{Seeks, seeks-end, found, seeks-next}
use Rattle.wah_read.proofs.row.locate.Goals as goal
use Rattle.wah_read.proofs.row.locate.Goals.{then-is_fill+else-ahead-fill, else-is_fill+else-ahead-eq0}

pub returns-then-ahead-fill : goal.returns-then-ahead-fill
returns-then-ahead-fill c =
    let r = c.read-fill in
    let x = get_or c.args.body.now c.loop-x.x-index 0 in
    let e = sym c.is_fill.ensures ∙ c.if-is_fill.true in
    found c.loop-x.invariant c.loop-x-test.true r.result.count (r.ensures.count-is ∙ sym (fill-size x e)) c.if-ahead-fill.true
    c.segment-word.result (spelled-fill x c.segment-word.result e (c.segment-word.ensures ∙ ap (fill 31) r.ensures.value-is))

pub returns-then-ahead-eq0 : goal.returns-then-ahead-eq0
returns-then-ahead-eq0 c =
    let b = c.args.body.now in
    let s = c.args.s in
    let x = get_or b c.loop-x.x-index 0 in
    let e = sym c.is_fill.ensures ∙ c.if-is_fill.false in
    let none : s - c.loop-x.ahead ≡ s = omega (arith, c.if-ahead-eq0.true) in
    subst (λ (n : ℕ). PlaceOf (wah_segments b) (wah_pieces b) s (record { word = x; from = n; size = 1 })) none
    (found c.loop-x.invariant c.loop-x-test.true 1 (sym (literal-size x e)) (omega (arith, c.if-ahead-eq0.true)) x (spelled-literal x e))

pub loop-x-preserved : goal.loop-x-preserved
loop-x-preserved c =
    let b = c.args.body.now in
    let i = c.loop-x.x-index in
    let x = get_or b i 0 in
    elim c.if-is_fill.branch [
      | then-is_fill+else-ahead-fill w ↦
          let e = sym c.is_fill.ensures ∙ w.if-is_fill.true in
          subst (λ (n : ℕ). Seeks b c.args.s (i + 1) n) (sym w.ahead-is)
          (seeks-next c.loop-x.invariant c.loop-x-test.true w.read-fill.result.count
          (w.read-fill.ensures.count-is ∙ sym (fill-size x e)) w.if-ahead-fill.false)
      | else-is_fill+else-ahead-eq0 w ↦
          let e = sym c.is_fill.ensures ∙ w.if-is_fill.false in
          subst (λ (n : ℕ). Seeks b c.args.s (i + 1) n) (sym w.ahead-is)
          (seeks-next c.loop-x.invariant c.loop-x-test.true 1 (sym (literal-size x e)) (omega (arith, w.if-ahead-eq0.false)))
    ]

pub unreachable-requires : goal.unreachable-requires
unreachable-requires c = seeks-end c.loop-x.invariant c.loop-x-test.false
