-- Rows that follow rows, and the test of refusal 12: which state and buffer belong together.
-- Assumes nothing.
use Prim.Native.Nat.{ℕ, suc, ◌+◌, ◌-◌, ◌≤◌, ◌<◌}
use mathlib.Core.Bool.{Bool, true, false, not, ◌||◌, true≢false}
use mathlib.Core.Path.{◌≡◌, refl, sym, ap, ap₂, ◌∙◌}
use mathlib.Core.List.{List, [], ◌∷◌}
use lib.Dec.{eqb, ltb}
use lib.ListN.{length}
use native.Mathlib.Decide.{dec_le}
use native.Mathlib.Omega.{arith}
use borrow.Author.Tests.{lt-ltb, le-ltb, eq-eqb, eqb-true, ltb-false, not-false}
use Rattle.meaning.specs.Limits.{most_rows}
use Rattle.meaning.specs.Format.{rows_of, Canonical, canonical}
use Rattle.meaning.specs.declared.Format.TheVariants.{Ewah}
use Rattle.laws.proofs.Tests.{or-false, never_both}
use Rattle.laws.proofs.Segments.{both}
use Rattle.batches.specs.declared.AppendState.{AppendState}
use Rattle.batches.specs.Append.{same_words, is_canonical, in_use, mismatched, followed}
use Rattle.batches.specs.AppendLaws.{Matches}

-- ---- rows that follow rows

module _ (R : ℕ) (p q : ℕ → Bool) (r : ℕ) where
  pub follow-old : r < R → followed R p q r ≡ p r
  unfolding followed
  follow-old h = rw (lt-ltb r R h)

  pub follow-new : R ≤ r → followed R p q r ≡ q (r - R)
  unfolding followed
  follow-new h = rw (le-ltb r R h)

-- only the rows below R of the first are asked
pub follow-ext : (R : ℕ) (p p' q : ℕ → Bool) → ((r : ℕ) → r < R → p r ≡ p' r) → (r : ℕ) → followed R p q r ≡ followed R p' q r
follow-ext R p p' q h r = elim (dec_le (suc r) R) [
  | yes g ↦ follow-old R p q r g ∙ h r g ∙ sym (follow-old R p' q r g)
  | no g ↦ follow-new R p q r (omega arith) ∙ sym (follow-new R p' q r (omega arith))
]

-- behind no rows
pub follow-none : (p q : ℕ → Bool) (r : ℕ) → followed 0 p q r ≡ q r
follow-none p q r = follow-new 0 p q r (omega arith) ∙ ap q (omega arith)

pub follow-assoc : (R k : ℕ) (p q t : ℕ → Bool) (r : ℕ) → followed (R + k) (followed R p q) t r ≡ followed R p (followed k q t) r
follow-assoc R k p q t r = elim (dec_le (suc r) R) [
  | yes g ↦
      follow-old (R + k) (followed R p q) t r (omega arith)
      ∙ follow-old R p q r g
      ∙ sym (follow-old R p (followed k q t) r g)
  | no g ↦ (elim (dec_le (suc r) (R + k)) [
    | yes l ↦
        follow-old (R + k) (followed R p q) t r l
        ∙ follow-new R p q r (omega arith)
        ∙ sym (follow-old k q t (r - R) (omega arith))
        ∙ sym (follow-new R p (followed k q t) r (omega arith))
    | no l ↦
        follow-new (R + k) (followed R p q) t r (omega arith)
        ∙ ap t (omega arith)
        ∙ sym (follow-new k q t (r - R) (omega arith))
        ∙ sym (follow-new R p (followed k q t) r (omega arith))
  ])
]

-- ---- the words in use are a canonical body, or not

same_true : (a b : List ℕ) → same_words a b ≡ true → a ≡ b
unfolding same_words
same_true [] [] e = refl
same_true [] (y ∷ ys) e = absurd (true≢false (sym e))
same_true (x ∷ xs) [] e = absurd (true≢false (sym e))
same_true (x ∷ xs) (y ∷ ys) e =
    let p = both (eqb x y) (same_words xs ys) e in
    ap₂ (λ (k : ℕ) (l : List ℕ). k ∷ l) (eqb-true x y p.0) (same_true xs ys p.1)

same_self : (a : List ℕ) → same_words a a ≡ true
unfolding same_words
same_self [] = refl
same_self (x ∷ xs) = rw (eq-eqb x x refl, same_self xs)

module _ (R : ℕ) (b : List ℕ) where
  pub tests-canonical : is_canonical R b ≡ true → Canonical Ewah R b
  unfolding is_canonical
  tests-canonical e = same_true b (canonical Ewah R (rows_of Ewah b)) e

  pub tests-true : Canonical Ewah R b → is_canonical R b ≡ true
  unfolding is_canonical
  tests-true c = sym (ap (same_words b) c) ∙ same_self b

  pub not-canonical : is_canonical R b ≡ false → Canonical Ewah R b → ⊥
  not-canonical e c = never_both (is_canonical R b) (tests-true c) e

-- ---- state and buffer

module _ (s : AppendState) (buffer : List ℕ) where
  pub matches : mismatched s buffer ≡ false → Matches s buffer
  unfolding mismatched
  matches e =
      let other = not (eqb (length buffer) s.room) in
      let many = ltb most_rows s.rows in
      let past = ltb (length buffer) s.words in
      let x = or-false (other || many || past) (not (is_canonical s.rows (in_use s buffer))) e in
      let y = or-false (other || many) past x.0 in
      let z = or-false other many y.0 in
      record {
        room = eqb-true (length buffer) s.room (not-false (eqb (length buffer) s.room) z.0);
        few = ltb-false most_rows s.rows z.1;
        inside = ltb-false (length buffer) s.words y.1;
        form = tests-canonical s.rows (in_use s buffer) (not-false (is_canonical s.rows (in_use s buffer)) x.1);
      }

  pub not-mismatched : Matches s buffer → mismatched s buffer ≡ false
  unfolding mismatched
  not-mismatched m = rw (
    eq-eqb (length buffer) s.room m.room,
    le-ltb most_rows s.rows m.few,
    le-ltb (length buffer) s.words m.inside,
    tests-true s.rows (in_use s buffer) m.form,
  )
