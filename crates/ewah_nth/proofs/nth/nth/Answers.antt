-- `ewah_nth::nth::nth` meets its contract. By `nth-pad` a set bit past the last row is none.
-- Assumes nothing.
use native.Mathlib.Omega.{arith}
use Prim.Native.Nat.{ℕ, ◌+◌, ◌*◌, ◌≤◌}
use mathlib.Core.Path.{◌≡◌, sym, ap, ◌∙◌, subst}
use mathlib.Core.List.{List, ◌++◌}
use lib.ListN.{length, take, drop, replicate}
use lib.Seq.{take-length}
use Rattle.meaning.specs.Format.{rows_of}
use Rattle.meaning.specs.declared.Format.TheVariants.{Ewah}
use Rattle.meaning.specs.Limits.{most_rows, most_segments}
use Rattle.meaning.specs.Segment.{ones, fill, has_row}
use Rattle.laws.specs.Laws.{EwahFacts}
use Rattle.laws.specs.Demands.{IsNth}
use Rattle.meaning.specs.Ewah.{segments, ewah_rows}
use Rattle.laws.proofs.Asked.{ones_step, nth-step, nth-found, nth-pad, nth_past}
use Rattle.laws.proofs.RowWords.{segments-few}
use Rattle.answers.specs.Told.{found_of}
use Rattle.ewah.specs.declared.marker.Marker.{Marker}
use Rattle.ewah.specs.Taken.{MarkerFirst}
use Rattle.ewah.proofs.Taking.{Left, left-start, left-none, left-step, left_words, left-next}
use Rattle.ewah_nth.proofs.nth.nth.Goals as goal

few : (R : ℕ) (b : List ℕ) → R ≤ most_rows → EwahFacts R b → length (segments b) ≤ most_segments
few R b h s = omega (arith, segments-few R h, s.count)

-- what a marker that was taken spells
abbrev own : Marker → List ℕ → List ℕ
own m dirty = replicate m.clean (fill 32 m.value) ++ dirty

-- a marker was taken
module _ {b rest : List ℕ} {o : ℕ} (l : Left b rest o) {m : Marker} {dirty next : List ℕ} (f : MarkerFirst rest m dirty next) where
  as_read : replicate m.clean (fill 32 m.value) ++ take m.dirty (drop (l.at + 1) b) ≡ own m dirty
  as_read = ap (λ (ws : List ℕ). replicate m.clean (fill 32 m.value) ++ ws) (left_words l f)

  within : o + m.clean + m.dirty ≤ length (segments b)
  within = (left-step l f).counts

  behind : Left b next (o + (m.clean + m.dirty))
  behind = let j : o + (m.clean + m.dirty) ≡ o + m.clean + m.dirty = omega arith in rw j (left-next l f)

  -- before which so many of n set rows are passed
  module _ {ahead n : ℕ} (passed : ones 32 (take o (segments b)) + ahead ≡ n) where
    -- the row that its segments have, as one of the body's
    here : (r : ℕ) → IsNth (length (own m dirty) * 32) (has_row 32 (own m dirty)) ahead r
        → IsNth (length (segments b) * 32) (has_row 32 (segments b)) n (o * 32 + r)
    here r h =
        subst (λ (k : ℕ). IsNth (length (segments b) * 32) (has_row 32 (segments b)) k (o * 32 + r)) passed
        (nth-step b l.at o m.value m.clean m.dirty (left-step l f) ahead r
        (subst (λ (xs : List ℕ). IsNth (length xs * 32) (has_row 32 xs) ahead r) (sym as_read) h))

    -- or none of them
    on : (k : ℕ) → ones 32 (own m dirty) + k ≡ ahead → ones 32 (take (o + (m.clean + m.dirty)) (segments b)) + k ≡ n
    on k e =
        let j : o + (m.clean + m.dirty) ≡ o + m.clean + m.dirty = omega arith in
        rw j (omega (arith, passed, e, ap (ones 32) as_read, ones_step b l.at o m.value m.clean m.dirty (left-step l f)))

pub loop-m-init : goal.loop-m-init
unfolding ones
loop-m-init c = (left-start c.args.body.now _ (search c.of-m-items.ensures) c.requires.1.ended, omega arith)

pub overflow_mul-row : goal.overflow_mul-row
overflow_mul-row c =
    let i = c.loop-m.invariant in
    omega (arith, within i.0 c.in-Some.ensures.steps, few c.args.rows c.args.body.now c.requires.0 c.requires.1)

pub overflow_add-row : goal.overflow_add-row
overflow_add-row c =
    let i = c.loop-m.invariant in
    omega (arith, (here i.0 c.in-Some.ensures.steps i.1 c.in-Here.r c.in-Here.ensures).below, few c.args.rows c.args.body.now c.requires.0 c.requires.1)

pub returns-then-row-rows : goal.returns-then-row-rows
unfolding found_of rows_of ewah_rows
returns-then-row-rows c =
    let i = c.loop-m.invariant in
    sym (nth-found Ewah c.args.rows c.args.body.now c.requires.1.count c.args.n _ (here i.0 c.in-Some.ensures.steps i.1 c.in-Here.r c.in-Here.ensures) c.if-row-rows.true)

pub returns-else-row-rows : goal.returns-else-row-rows
unfolding found_of rows_of ewah_rows
returns-else-row-rows c =
    let i = c.loop-m.invariant in
    sym (nth-pad Ewah c.args.rows c.args.body.now c.requires.1.count c.args.n _ (here i.0 c.in-Some.ensures.steps i.1 c.in-Here.r c.in-Here.ensures) c.if-row-rows.false)

pub overflow_add-behind-in-loop-m : goal.overflow_add-behind-in-loop-m
overflow_add-behind-in-loop-m c =
    let i = c.loop-m.invariant in
    omega (arith, within i.0 c.in-Some.ensures.steps, few c.args.rows c.args.body.now c.requires.0 c.requires.1)

pub loop-m-preserved : goal.loop-m-preserved
loop-m-preserved c =
    let i = c.loop-m.invariant in
    (behind i.0 c.in-Some.ensures.steps, on i.0 c.in-Some.ensures.steps i.1 c.in-Ahead.k c.in-Ahead.ensures)

pub returns : goal.returns
unfolding found_of rows_of ewah_rows
returns c =
    let b = c.args.body.now in
    let i = c.loop-m.invariant in
    let e : ones 32 (take c.loop-m.behind (segments b)) ≡ ones 32 (segments b) =
    ap (λ (o : ℕ). ones 32 (take o (segments b))) (left-none i.0 c.in-None.ensures.steps.0) ∙ ap (ones 32) (take-length (segments b)) in
    sym (nth_past Ewah c.args.rows b c.requires.1.count c.args.n (omega (arith, i.1, e)))
