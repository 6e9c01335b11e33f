-- How many words an answer with one cut can have, in either format: which rows are in it hangs on the bodies that have
-- them, and for some rows on whether they come before the cut. The segment with the cut is taken for one end more.
-- Assumes nothing.
use Prim.Native.Nat.{ℕ, suc, ◌+◌, ◌-◌, ◌*◌, ◌/◌, ◌≤◌, ◌<◌}
use mathlib.Core.Bool.{Bool, true, false, ◌&&◌, ◌||◌}
use mathlib.Core.Path.{◌≡◌, refl, ap, ◌∙◌}
use mathlib.Core.List.{List, ◌∷◌}
use lib.Dec.{eqb, ltb}
use lib.ListN.{length}
use native.Mathlib.Nat.{le-div_iff_mul-le, div-lt_iff_lt-mul, suc-mul}
use native.Mathlib.Omega.{arith}
use native.Mathlib.Decide.{dec_le}
use borrow.Author.Tests.{lt-ltb, le-ltb, eqb-false}
use Rattle.meaning.specs.Rows.{count_below, sum_below}
use Rattle.meaning.specs.Segment.{segment_count}
use Rattle.meaning.specs.Format.{width, pieces_of, canonical}
use Rattle.meaning.specs.declared.Format.{Format}
use Rattle.meaning.specs.Question.{is_in, ends_from, ends_at, stretches, total_words}
use Rattle.laws.proofs.Tests.{or-false}
use Rattle.laws.proofs.Formats.{width-pos}
use Rattle.laws.proofs.Stretches.{count-or, count-one, count-both, ends-le, stretches-le}
use Rattle.laws.proofs.Enough.{AllSound, Evenly, level, ends_last, ends_words}
pub use Rattle.laws.proofs.Enough.{row_bits}

-- ---- the stretches of two or more bodies

-- they are fewer than the words: two bodies have a piece that ends with the last segment, which is one stretch
spare : (F : Format) (R : ℕ) (b c : List ℕ) (bs : List (List ℕ)) → AllSound F R (b ∷ c ∷ bs)
    → 0 < segment_count (width F) R → stretches F R (b ∷ c ∷ bs) + 1 ≤ total_words (b ∷ c ∷ bs)
unfolding stretches ends_at total_words
spare F R b c bs a h =
    let n = segment_count (width F) R in
    let second : ends_at F (c ∷ bs) (n - 1) ≡ true =
    ap (λ (t : Bool). t || ends_at F bs (n - 1)) (ends_last F R c a.1.0 h) in
    omega (
      arith,
      count-both n (n - 1) (λ i. is_in (ends_from 0 (pieces_of F b)) (suc i)) (ends_at F (c ∷ bs)) (omega arith)
          (ends_last F R b a.0 h) second,
      ends-le F b n,
      stretches-le F R (c ∷ bs),
    )

-- ---- rows before the segment with the cut, and behind it

row_before : (w cut i j : ℕ) → 0 < w → i < cut / w → j < w → i * w + j < cut
row_before w cut i j pos h g = omega (arith, (le-div_iff_mul-le pos).0 h, suc-mul i w)

row-behind : (w cut i j : ℕ) → 0 < w → cut / w < i → cut ≤ i * w + j
row-behind w cut i j pos h = omega (arith, (div-lt_iff_lt-mul pos).0 h)

-- before the cut either test is enough
in-before : (s t : Bool) (r cut : ℕ) → r < cut → s || (t && ltb r cut) ≡ s || t
in-before true t r cut h = refl
in-before false true r cut h = lt-ltb r cut h
in-before false false r cut h = refl

-- behind it the first alone decides
in-behind : (s t : Bool) (r cut : ℕ) → cut ≤ r → s || (t && ltb r cut) ≡ s
in-behind true t r cut h = refl
in-behind false true r cut h = le-ltb r cut h
in-behind false false r cut h = refl

-- ---- the answer: of the bodies' bits at row r, `f` says yes, or `g` does and r is before the cut

module _ (F : Format) (R : ℕ) (b c : List ℕ) (bs : List (List ℕ)) (a : AllSound F R (b ∷ c ∷ bs))
    (f g : List Bool → Bool) (cut : ℕ) where
  abbrev bodies : List (List ℕ)
  bodies = b ∷ c ∷ bs

  -- segment i has the cut
  abbrev cut_at : (i : ℕ) → Bool
  cut_at i = eqb (suc (cut / width F)) (suc i)

  abbrev E : (i : ℕ) → Bool
  E i = cut_at i || ends_at F bodies i

  abbrev q : ℕ → Bool
  q r = f (row_bits F bodies r) || (g (row_bits F bodies r) && ltb r cut)

  -- a segment that is no end has no cut, and no piece ends with it
  no_end : (i : ℕ) → E i ≡ false → (cut / width F ≡ i → ⊥) × (ends_at F bodies i ≡ false)
  no_end i e =
      let o = or-false (cut_at i) (ends_at F bodies i) e in
      (λ z. eqb-false (suc (cut / width F)) (suc i) o.0 (omega arith), o.1)

  -- row j of a segment before the cut's, where the bodies' bits are l
  before : (i j : ℕ) (l : List Bool) → i < cut / width F → j < width F
      → row_bits F bodies (i * width F + j) ≡ l → q (i * width F + j) ≡ f l || g l
  before i j l h d e =
      let r = i * width F + j in
      in-before (f (row_bits F bodies r)) (g (row_bits F bodies r)) r cut
      (row_before (width F) cut i j (width-pos F) h d)
      ∙ ap (λ (m : List Bool). f m || g m) e

  -- and of a segment behind it
  behind : (i j : ℕ) (l : List Bool) → cut / width F < i
      → row_bits F bodies (i * width F + j) ≡ l → q (i * width F + j) ≡ f l
  behind i j l h e =
      let r = i * width F + j in
      in-behind (f (row_bits F bodies r)) (g (row_bits F bodies r)) r cut
      (row-behind (width F) cut i j (width-pos F) h)
      ∙ ap f e

  -- between two ends the answer does not change
  even : (i : ℕ) → i < segment_count (width F) R → E i ≡ false → Evenly (width F) q E i
  even i h e =
      let o = no_end i e in
      let l = level F R bodies a i h o.1 in
      elim (dec_le (suc i) (cut / width F)) [
        | yes k ↦ record {
          t = f l.bits || g l.bits;
          here = λ j d. before i j l.bits k d (l.here j d);
          next = λ z j d. before (suc i) j l.bits (omega (arith, (no_end (suc i) z).0)) d (l.next j d);
        }
        | no k ↦
            let past : cut / width F < i = omega (arith, o.0) in
            record {
              t = f l.bits;
              here = λ j d. behind i j l.bits past (l.here j d);
              next = λ z j d. behind (suc i) j l.bits (omega arith) (l.next j d);
            }
      ]

  -- at most two words for each word of the bodies
  pub cut-words-le : length (
      canonical F R (λ r. f (row_bits F (b ∷ c ∷ bs) r) || (g (row_bits F (b ∷ c ∷ bs) r) && ltb r cut))
      ) ≤ 2 * total_words (b ∷ c ∷ bs)
  unfolding stretches count_below sum_below
  cut-words-le =
      let n = segment_count (width F) R in
      let few = ends_words F R b (c ∷ bs) a q E (λ i e. (no_end i e).1) even in
      elim (dec_le 1 n) [
        | yes h ↦ omega (
          arith,
          few,
          count-or n cut_at (ends_at F bodies),
          count-one n (suc (cut / width F)),
          spare F R b c bs a h,
        )
        | no h ↦
            let none : n ≡ 0 = omega arith in
            omega (arith, few, ap (λ (m : ℕ). count_below m E) none)
      ]
