-- Which segments of an answer a stretch gives, and how many rows, over either format, where the number of bodies that
-- have a row decides whether the answer has it.
-- Assumes nothing.
use Prim.Native.Nat.{ℕ, zero, suc, ◌+◌, ◌-◌, ◌*◌, ◌/◌, ◌%◌, ◌^◌, ◌≤◌, ◌<◌, min}
use mathlib.Core.Bool.{Bool, true, false, ◌&&◌, and-true, and-false}
use mathlib.Core.Path.{◌≡◌, refl, sym, ap, ap₂, ◌∙◌}
use mathlib.Core.List.{List, [], ◌∷◌}
use lib.Dec.{ltb}
use lib.ListN.{length, get_or, take, drop, replicate, length-drop, length-replicate, get_or-replicate}
use lib.Pow.{pow_pos, pow_mono, ones_lt}
use lib.Seq.{ext_get_or, get_or-take, get_or-drop, length-take-le}
use native.Mathlib.Nat.{div-eq_of_lt, div-add-mod', div-lt_iff_lt-mul, mod-lt, one-mul, add-mul}
use native.Mathlib.Decide.{dec_le}
use native.Mathlib.Omega.{arith}
use borrow.Author.Tests.{lt-ltb, le-ltb}
use Rattle.meaning.specs.Rows.{count_below}
use Rattle.meaning.specs.Segment.{Segment, clean, kind, fill, rows_in, is_set, bit_at, segment_count, all_set, from_rows}
use Rattle.meaning.specs.Format.{width, words_of, canonical}
use Rattle.meaning.specs.declared.Format.{Format}
use Rattle.laws.specs.Ahead.{held_at, answer_rows, answer_segments, StretchAt}
use Rattle.laws.proofs.Formats.{width-pos}
use Rattle.laws.proofs.Segments.{kinds-length, kind-fill}
use Rattle.laws.proofs.Cut.{bit_below, kinds-at, rows-some, rows-le, rows-bit}
use Rattle.laws.proofs.RowWords.{word-by-bits, from-bit, from-below, from-length, begins}
use Rattle.laws.proofs.Counting.{zero_clear, full-set, count_add, count-ext, count-all}
use Rattle.laws.proofs.Counted.{count_none}

-- ---- the rows of a segment, as a mask

-- k ones have no bit from k on
ones-past : (k j : ℕ) → k ≤ j → is_set (2 ^ k - 1) j ≡ false
unfolding is_set bit_at
ones-past k j h = let z : (2 ^ k - 1) / 2 ^ j ≡ 0 = div-eq_of_lt (omega (arith, ones_lt k, pow_mono h)) in rw z

pub ones_bit : (k j : ℕ) → is_set (2 ^ k - 1) j ≡ ltb j k
ones_bit k j = elim (dec_le (suc j) k) [
  | yes h ↦ full-set k j h ∙ sym (lt-ltb j k h)
  | no h ↦ ones-past k j (omega arith) ∙ sym (le-ltb j k (omega arith))
]

-- which bits of a segment are rows
pub mask-bit : (w : ℕ) → 0 < w → (R i j : ℕ) → j < w → is_set (2 ^ rows_in w R i - 1) j ≡ ltb (i * w + j) R
mask-bit w pos R i j h = ones_bit (rows_in w R i) j ∙ rows-bit w pos R i j h

-- a word cut at bit k keeps the bits below k, and has no others
low_bits : (x k j : ℕ) → is_set (x % 2 ^ k) j ≡ ltb j k && is_set x j
unfolding is_set bit_at
low_bits x k j = elim (dec_le (suc j) k) [
  | yes h ↦ rw (lt-ltb j k h, bit_below x j k h)
  | no h ↦
      let z : x % 2 ^ k / 2 ^ j ≡ 0 = div-eq_of_lt (omega (arith, mod-lt x (pow_pos k), pow_mono (past h))) in
      rw (z, le-ltb j k (past h))
]
  where
    past : (suc j ≤ k → ⊥) → k ≤ j
    past h = omega arith

-- ---- the answer's segments

-- a part of a list whose elements are known
pub part-is : (l p : List Segment) (o n : ℕ) → length p ≡ n → o + n ≤ length l
    → ((i : ℕ) → i < n → get_or l (o + i) (clean 0) ≡ get_or p i (clean 0)) → take n (drop o l) ≡ p
part-is l p o n e h g =
    let long : length (take n (drop o l)) ≡ n = length-take-le n (drop o l) (omega (arith, length-drop o l)) in
    ext_get_or (clean 0) (take n (drop o l)) p (long ∙ sym e)
    (λ i k. let k' : i < n = omega arith in get_or-take n (drop o l) i (clean 0) k' ∙ get_or-drop o l i (clean 0) ∙ g i k')

-- of k bits from row a on, those that are rows below R
pub count_cut : (a k R : ℕ) (q : ℕ → Bool) → a ≤ R
    → count_below k (λ j. ltb (a + j) R && q j) ≡ count_below (min R (a + k) - a) q
count_cut a k R q h =
    ap (λ (i : ℕ). count_below i cut) e
    ∙ count_add m (k - m) cut
    ∙ omega (
      arith,
      count-ext m cut q (λ r g. rw (lt-ltb (a + r) R (omega arith))),
      count_none (k - m) (λ r. cut (m + r)) (λ r g. rw (le-ltb (a + (m + r)) R (omega arith))),
    )
  where
    cut : ℕ → Bool
    cut j = ltb (a + j) R && q j

    m : ℕ
    m = min R (a + k) - a

    e : k ≡ m + (k - m)
    e = omega arith

module _ (F : Format) (R : ℕ) (f : ℕ → Bool) (bodies : List (List ℕ)) where
  abbrev w : ℕ
  w = width F

  abbrev pos : 0 < w
  pos = width-pos F

  -- the answer's rows, their words and their segments
  abbrev p : ℕ → Bool
  p = answer_rows F f bodies

  abbrev A : List ℕ
  A = from_rows w R p

  abbrev T : List Segment
  T = answer_segments F R f bodies

  -- bit j of word i: it is a row, and so many of the bodies have it that the answer does
  answer-bit : (i j : ℕ) → i < segment_count w R → j < w
      → is_set (get_or A i 0) j ≡ ltb (i * w + j) R && f (held_at F bodies i j)
  unfolding answer_rows held_at
  answer-bit i j h k = from-bit w pos R p i j h k

  -- there are as many segments as R rows have
  pub answer-length : length (answer_segments F R f bodies) ≡ segment_count (width F) R
  unfolding answer_segments
  answer-length = kinds-length w R A ∙ from-length w pos R p

  -- they are those of the canonical body
  pub answer-canonical : canonical F R (answer_rows F f bodies) ≡ words_of F R (answer_segments F R f bodies)
  unfolding canonical answer_segments
  answer-canonical = refl

  -- the segment of a word whose bits are right
  segment-is : (i x : ℕ) → i < segment_count w R → x < 2 ^ w
      → ((j : ℕ) → j < w → is_set x j ≡ ltb (i * w + j) R && f (held_at F bodies i j))
      → get_or T i (clean 0) ≡ kind (rows_in w R i) x
  unfolding answer_segments
  segment-is i x h l g =
      kinds-at w pos R A i (clean 0) (from-length w pos R p) h
      ∙ ap (kind (rows_in w R i)) (word-by-bits w (get_or A i 0) x (from-below w pos R p i) l same)
    where
      same : (j : ℕ) → j < w → is_set (get_or A i 0) j ≡ is_set x j
      same j k = answer-bit i j h k ∙ sym (g j k)

  module _ (o n ones dirty : ℕ) (extra : ℕ → ℕ) (s : StretchAt F R bodies o n ones dirty extra) where
    -- row j of segment o + i is one of R rows
    abbrev is_row : ℕ → ℕ → Bool
    is_row i j = ltb ((o + i) * w + j) R

    -- segment i of a clean stretch
    clean-segment : dirty ≡ 0 → (i x : ℕ) → i < n → x < 2 ^ w → ((j : ℕ) → j < w → is_set x j ≡ is_row i j && f ones)
        → get_or T (o + i) (clean 0) ≡ kind (rows_in w R (o + i)) x
    clean-segment z i x h l g =
        segment-is (o + i) x (omega (arith, s.within)) l
        (λ j k. g j k ∙ sym (ap (λ (c : ℕ). is_row i j && f c) (s.clean z (o + i) (omega arith) (omega arith) j k)))

    -- a clean stretch whose rows are not in the answer
    pub run-zeros : dirty ≡ 0 → f ones ≡ false → take n (drop o (answer_segments F R f bodies)) ≡ replicate n (clean 0)
    unfolding kind
    run-zeros z e =
        part-is T (replicate n (clean 0)) o n (length-replicate n (clean 0)) (omega (arith, s.within, answer-length))
        (λ i h. clean-segment z i 0 h (pow_pos w)
        (λ j k. zero_clear j ∙ sym (ap (λ (t : Bool). is_row i j && t) e ∙ and-false (is_row i j)))
        ∙ sym (get_or-replicate n i (clean 0) (clean 0) h))

    -- and one whose rows are in it: the last segment, too, is clean
    ones-segment : dirty ≡ 0 → f ones ≡ true → (i : ℕ) → i < n → get_or T (o + i) (clean 0) ≡ clean 1
    unfolding fill all_set
    ones-segment z e i h =
        let k = rows_in w R (o + i) in
        let one : 1 * (2 ^ k - 1) ≡ 2 ^ k - 1 = omega arith in
        clean-segment z i (2 ^ k - 1) h (omega (arith, ones_lt k, pow_mono (rows-le w pos R (o + i))))
        (λ j b. mask-bit w pos R (o + i) j b ∙ sym (ap (λ (t : Bool). is_row i j && t) e ∙ and-true (is_row i j)))
        ∙ ap (kind k) (sym one)
        ∙ kind-fill k 1 (rows-some w pos R (o + i) (omega (arith, s.within))) (omega arith)

    pub run-ones : dirty ≡ 0 → f ones ≡ true → take n (drop o (answer_segments F R f bodies)) ≡ replicate n (clean 1)
    run-ones z e =
        part-is T (replicate n (clean 1)) o n (length-replicate n (clean 1)) (omega (arith, s.within, answer-length))
        (λ i l. ones-segment z e i l ∙ sym (get_or-replicate n i (clean 1) (clean 0) l))

    -- a stretch with a dirty word
    pub one_word : (dirty ≡ 0 → ⊥) → (x : ℕ) → x < 2 ^ width F
        → ((j : ℕ) → j < width F → is_set x j ≡ ltb (o * width F + j) R && f (ones + extra j))
        → take n (drop o (answer_segments F R f bodies)) ≡ kind (rows_in (width F) R o) x ∷ []
    one_word d x h g =
        part-is T (kind (rows_in w R o) x ∷ []) o n (sym (s.single d)) (omega (arith, s.within, answer-length)) each
      where
        each : (i : ℕ) → i < n → get_or T (o + i) (clean 0) ≡ get_or (kind (rows_in w R o) x ∷ []) i (clean 0)
        each zero l =
            ap (λ (k : ℕ). get_or T k (clean 0)) (omega arith)
            ∙ segment-is o x (omega (arith, s.within)) h
            (λ j b. g j b ∙ sym (ap (λ (c : ℕ). ltb (o * w + j) R && f c) (s.mixed d j b)))
        each (suc i) l = absurd (omega (arith, s.single d))

    -- of its word only the bits below the width need be right: those that are no rows are cut off
    pub low_word : (dirty ≡ 0 → ⊥) → (x : ℕ) → ((j : ℕ) → j < width F → is_set x j ≡ f (ones + extra j))
        → take n (drop o (answer_segments F R f bodies))
        ≡ kind (rows_in (width F) R o) (x % 2 ^ rows_in (width F) R o) ∷ []
    low_word d x g =
        let k = rows_in w R o in
        one_word d (x % 2 ^ k) (omega (arith, mod-lt x (pow_pos k), pow_mono (rows-le w pos R o)))
        (λ j l. low_bits x k j ∙ ap₂ (λ (s t : Bool). s && t) (rows-bit w pos R o j l) (g j l))

    -- ---- its rows, counted

    -- the segments before it have no pad bits
    rows_before : o * w ≤ R
    rows_before = omega (arith, begins w pos R o (omega (arith, s.some, s.within)))

    -- how many rows it has
    abbrev its : ℕ
    its = min R ((o + n) * w) - o * w

    -- the answer's rows up to its end: those before it, and its own
    count-stretch : count_below (min R ((o + n) * w)) p
        ≡ count_below (min R (o * w)) p + count_below its (λ r. p (o * w + r))
    count-stretch =
        let e : min R (o * w) ≡ o * w = omega (arith, rows_before) in
        let e' : min R ((o + n) * w) ≡ o * w + its = omega (arith, rows_before, add-mul o n w) in
        ap (λ (k : ℕ). count_below k p) e' ∙ count_add (o * w) its p ∙ rw e

    -- a row of a clean stretch
    clean-row : dirty ≡ 0 → (r : ℕ) → r < its → p (o * w + r) ≡ f ones
    unfolding answer_rows held_at
    clean-row z r h =
        let e : o * w + r ≡ (o + r / w) * w + r % w = omega (arith, add-mul o (r / w) w, div-add-mod' r w) in
        let l : r / w < n = (div-lt_iff_lt-mul pos).1 (omega (arith, add-mul o n w)) in
        ap p e ∙ ap f (s.clean z (o + r / w) (omega arith) (omega arith) (r % w) (mod-lt r pos))

    -- a clean stretch: all of its rows or none
    pub count-in : dirty ≡ 0 → f ones ≡ true
        → count_below (min R ((o + n) * width F)) (answer_rows F f bodies)
        ≡ count_below (min R (o * width F)) (answer_rows F f bodies) + (min R ((o + n) * width F) - o * width F)
    count-in z e = omega (arith, count-stretch, count-all its (λ r. p (o * w + r)) (λ r h. clean-row z r h ∙ e))

    pub count-out : dirty ≡ 0 → f ones ≡ false
        → count_below (min R ((o + n) * width F)) (answer_rows F f bodies)
        ≡ count_below (min R (o * width F)) (answer_rows F f bodies)
    count-out z e = omega (arith, count-stretch, count_none its (λ r. p (o * w + r)) (λ r h. clean-row z r h ∙ e))

    -- one with a dirty word: bit by bit
    pub count-mixed : (dirty ≡ 0 → ⊥)
        → count_below (min R ((o + n) * width F)) (answer_rows F f bodies)
        ≡ count_below (min R (o * width F)) (answer_rows F f bodies)
        + count_below (width F) (λ j. ltb (o * width F + j) R && f (ones + extra j))
    unfolding answer_rows held_at
    count-mixed d =
        let one : n * w ≡ w = ap (λ (k : ℕ). k * w) (s.single d) ∙ one-mul w in
        let end : (o + n) * w ≡ o * w + w = add-mul o n w ∙ ap (λ (k : ℕ). o * w + k) one in
        let e : min R (o * w + w) - o * w ≡ its = omega arith in
        omega (
          arith,
          count-stretch,
          count-ext its (λ r. p (o * w + r)) bits (λ r h. ap f (s.mixed d r (omega (arith, end)))),
          count_cut (o * w) w R bits rows_before,
          ap (λ (k : ℕ). count_below k bits) e,
        )
      where
        bits : ℕ → Bool
        bits j = f (ones + extra j)
