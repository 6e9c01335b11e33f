-- The writer's one store keeps the buffer at the words of its WAH draft.
-- Assumes nothing.
use Prim.Native.Nat.{ℕ, ◌+◌, ◌-◌, ◌≤◌, ◌<◌}
use mathlib.Core.Path.{◌≡◌, sym, ap, ◌∙◌}
use mathlib.Core.List.{List, [], ◌∷◌, ◌++◌, foldl, append-nil}
use native.Mathlib.Omega.{arith}
use native.Mathlib.Numerals.{add-one}
use lib.ListN.{length, take, set, replicate, length-append}
use lib.Seq.{take-suc-set, drop-set-lt, take-take, take_at}
use Rattle.meaning.specs.Limits.{most_fill}
use Rattle.meaning.specs.Segment.{Segment, clean, mixed}
use Rattle.meaning.specs.Wah.{WahDraft, wah_draft, run_words, wah_body, wah_put}
use Rattle.laws.proofs.WahSize.{body-length}
use Rattle.ewah_write.specs.declared.writer.Writer.{Writer}
use Rattle.wah_write.specs.WahDrafts.{WahTracks, Grown, RoomFor, Pushed}
use Rattle.wah_write.proofs.Runs.{puts-grow, Ended, run-ended}
use Rattle.wah_write.proofs.Growing.{used-is, clean_is}

-- ---- room in the buffer

pub room-now : (ss : List Segment) {w : Writer} {n : ℕ} → RoomFor ss w n → w.used ≤ n
room-now ss r =
    let d = r.0 in
    omega (arith, used-is 31 d r.1, body-length 31 d, body-length 31 (foldl wah_put d ss), puts-grow ss d)

pub room-then : (ss : List Segment) {w r : Writer} {n : ℕ} → RoomFor ss w n → Grown w ss r → r.used ≤ n
room-then ss r g = omega (arith, used-is 31 (foldl wah_put r.0 ss) (g r.0 r.1))

-- ---- the last word

-- of n words in use, which begin with `front`, the one behind that is written, and is the last of k
stored : (out : List ℕ) (n at k x : ℕ) (front rest : List ℕ)
    → take n out ≡ front ++ rest → n ≡ length front + length rest
    → length front ≡ at → k ≡ at + 1 → at < length out → take k (set out at x) ≡ front ++ x ∷ []
stored out n at k x front rest e f g i h =
    let begins : take at out ≡ front = sym (take-take at n out (omega arith)) ∙ ap (take at) e ∙ take_at front rest at g in
    ap (λ (j : ℕ). take j (set out at x)) (i ∙ add-one at)
    ∙ take-suc-set out at x h
    ∙ ap (λ (l : List ℕ). l ++ x ∷ []) begins

-- the words of a draft that ends with a run
run-body : (real : ℕ) (front : List ℕ) (v n x : ℕ) → run_words real v n ≡ x ∷ []
    → wah_body real (wah_draft front v n) ≡ front ++ x ∷ []
unfolding wah_body
run-body real front v n x e = ap (λ (l : List ℕ). front ++ l) e

-- what `push_run` knows: the writer r after the run
pub record Running (out : List ℕ) (w r : Writer) (v n : ℕ) : Type 0 where
  pub grown : Grown w (replicate n (clean v)) r
  pub roomy : RoomFor (replicate n (clean v)) w (length out)
  pub some : 1 ≤ n
  pub fits : w.last.clean + n ≤ most_fill

module _ {out : List ℕ} {w r : Writer} {v n : ℕ} (s : Running out w r v n) where
  ended : (d : WahDraft) → WahTracks w d → Ended d v n
  ended d t = run-ended d v n s.some (omega (arith, s.fits, clean_is d t))

  tracked : (d : WahDraft) (t : WahTracks w d) → WahTracks r (wah_draft (ended d t).front v (ended d t).run)
  tracked d t = rw (ended d t).is at (s.grown d t)

  -- there is a run, and a word for it
  pub run-some : (1 ≤ r.last.clean) × (r.last.clean ≤ most_fill) × (1 ≤ r.used) × (r.used ≤ length out)
  run-some =
      let d = s.roomy.0 in
      let t = s.roomy.1 in
      let q = tracked d t in
      let some = (ended d t).some in
      let fits = room-then (replicate n (clean v)) s.roomy s.grown in
      (omega (arith, q.same.2), q.in-fill.clean-low, omega (arith, q.same.0), fits)

  pub run_pushed : (real x : ℕ) → run_words real v r.last.clean ≡ x ∷ []
      → Pushed real out (set out (r.used - 1) x) w (replicate n (clean v)) r
  run_pushed real x word = record {
    grown = s.grown;
    drawn = drawn;
    kept = drop-set-lt r.used out (r.used - 1) x (omega (arith, run-some));
  }
    where
      drawn : (d : WahDraft) → WahTracks w d → take w.used out ≡ wah_body 31 d
          → take r.used (set out (r.used - 1) x) ≡ wah_body real (foldl wah_put d (replicate n (clean v)))
      drawn d t b =
          let e = ended d t in
          let q = tracked d t in
          let u : r.used ≡ length e.front + 1 = omega (arith, q.same.0, e.some) in
          let c : e.run ≡ r.last.clean = sym q.same.2 in
          let n = used-is 31 d t ∙ ap length e.had ∙ length-append e.front e.rest in
          let h : r.used - 1 < length out = omega (arith, run-some) in
          stored out w.used (r.used - 1) r.used x e.front e.rest (b ∙ e.had) n (omega arith) (omega arith) h
          ∙ sym (ap (wah_body real) e.is ∙ run-body real e.front v e.run x (rw c word))

-- ---- a literal

-- the words after a literal, whatever rows it has
literal-body : (real : ℕ) (d : WahDraft) (x : ℕ) → wah_body real (wah_put d (mixed x)) ≡ wah_body 31 d ++ x ∷ []
unfolding wah_body wah_put run_words
literal-body real (wah_draft done v n) x = append-nil (done ++ run_words 31 v n ++ x ∷ [])

module _ (w r : Writer) (x : ℕ) (g : Grown w (mixed x ∷ []) r) (out : List ℕ)
    (roomy : RoomFor (mixed x ∷ []) w (length out)) where
  pub literal-used : r.used ≡ w.used + 1
  literal-used =
      let d = roomy.0 in
      let t = roomy.1 in
      let l = ap length (literal-body 31 d x) ∙ length-append (wah_body 31 d) (x ∷ []) in
      omega (arith, used-is 31 (wah_put d (mixed x)) (g d t), used-is 31 d t)

  pub literal-fits : w.used < length out
  literal-fits = omega (arith, literal-used, room-then (mixed x ∷ []) roomy g)

  pub literal-pushed : (real : ℕ) → Pushed real out (set out w.used x) w (mixed x ∷ []) r
  literal-pushed real = record {
    grown = g;
    drawn = drawn;
    kept = drop-set-lt r.used out w.used x (omega (arith, literal-used));
  }
    where
      drawn : (d : WahDraft) → WahTracks w d → take w.used out ≡ wah_body 31 d
          → take r.used (set out w.used x) ≡ wah_body real (wah_put d (mixed x))
      drawn d t b =
          let n : w.used ≡ length (wah_body 31 d) = used-is 31 d t in
          let had = b ∙ sym (append-nil (wah_body 31 d)) in
          stored out w.used w.used r.used x (wah_body 31 d) [] had (omega arith) (sym n) literal-used literal-fits
          ∙ sym (literal-body real d x)
