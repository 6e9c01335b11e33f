-- The segments of a set of rows, by words that have its rows; and that a segment's word has no bit behind its width.
-- Assumes nothing.
use Prim.Native.Nat.{ℕ, ◌+◌, ◌-◌, ◌*◌, ◌/◌, ◌%◌, ◌^◌, ◌≤◌, ◌<◌}
use mathlib.Core.Bool.{Bool, true, false, ◌&&◌}
use mathlib.Core.Path.{◌≡◌, refl, sym, ap, ◌∙◌}
use mathlib.Core.List.{List}
use lib.Bits.{and_mask}
use lib.Dec.{ltb}
use lib.ListN.{length, get_or}
use lib.Pow.{pow_pos, pow_mono}
use native.Mathlib.Nat.{mod-lt}
use native.Mathlib.Omega.{arith}
use borrow.Author.Tests.{eqb-false, ne_eqb, ltb-true}
use Rattle.meaning.specs.Segment.{Segment, clean, kind, kinds, rows_in, bit_at, is_set, segment_count, from_rows}
use Rattle.meaning.specs.Format.{width, segments_of}
use Rattle.meaning.specs.declared.Format.{Format}
use Rattle.meaning.specs.declared.Format.TheVariants.{Ewah, Wah}
use Rattle.meaning.specs.Wah.{wah_segments}
use Rattle.laws.proofs.RowWords.{word-by-bits, from-bit, from-below, from-length}
use Rattle.laws.proofs.Segments.{kinds-length}
use Rattle.laws.proofs.Cut.{kinds-at, rows-le}
use Rattle.laws.proofs.Formats.{width-pos}
use Rattle.laws.proofs.Evaluated.{mask-bit}
use Rattle.laws.proofs.WahBody.{wah-below}
use Rattle.words.proofs.BitLaws.{and_set}

-- ---- the segments of a set of rows

-- of a bit only what the mask lets through matters
masked : (a b m : Bool) → (m ≡ true → a ≡ b) → a && m ≡ m && b
masked true b true g = g refl
masked true b false g = refl
masked false b true g = g refl
masked false b false g = refl

module _ (F : Format) (R : ℕ) (p : ℕ → Bool) where
  abbrev pub segs : List Segment
  segs = kinds (width F) R (from_rows (width F) R p)

  abbrev pos : 0 < width F
  pos = width-pos F

  pub segs-length : length segs ≡ segment_count (width F) R
  segs-length = kinds-length (width F) R (from_rows (width F) R p) ∙ from-length (width F) pos R p

  -- the segment of a word whose bits below R are right: of its bits those that are rows
  module _ (i y : ℕ) (h : i < segment_count (width F) R)
      (g : (j : ℕ) → j < width F → i * width F + j < R → is_set y j ≡ p (i * width F + j)) where
    abbrev real : ℕ
    real = rows_in (width F) R i

    own-bit : (j : ℕ) → j < width F → is_set (y % 2 ^ real) j ≡ ltb (i * width F + j) R && p (i * width F + j)
    own-bit j l =
        ap (λ (x : ℕ). is_set x j) (sym (and_mask y real))
        ∙ and_set y (2 ^ real - 1) j
        ∙ ap (λ (m : Bool). is_set y j && m) (mask-bit (width F) pos R i j l)
        ∙ masked (is_set y j) (p r) (ltb r R) (λ e. g j l (ltb-true r R e))
      where
        r : ℕ
        r = i * width F + j

    pub segment-is : get_or segs i (clean 0) ≡ kind real (y % 2 ^ real)
    segment-is =
        let words = from_rows (width F) R p in
        let low : y % 2 ^ real < 2 ^ width F =
        omega (arith, mod-lt y (pow_pos real), pow_mono (rows-le (width F) pos R i)) in
        kinds-at (width F) pos R words i (clean 0) (from-length (width F) pos R p) h
        ∙ ap (kind real)
        (word-by-bits (width F) (get_or words i 0) (y % 2 ^ real) (from-below (width F) pos R p i) low
        (λ j l. from-bit (width F) pos R p i j h l ∙ sym (own-bit j l)))

-- ---- no bit behind a segment's width

pub segment-clear : (F : Format) (b : List ℕ) (i j : ℕ) → width F ≤ j → j < 32
    → is_set (get_or (segments_of F b) i 0) j ≡ false
unfolding is_set bit_at
segment-clear Ewah b i j l h = absurd (omega arith)
segment-clear Wah b i j l h =
    let e : j ≡ 31 = omega arith in
    let low = wah-below b i in
    rw e (ne_eqb (get_or (wah_segments b) i 0 / 2 ^ 31 % 2) 1 (omega arith))

-- a word that has none is a segment's
pub word_low : (F : Format) (x : ℕ) → x < 2 ^ 32 → ((j : ℕ) → width F ≤ j → j < 32 → is_set x j ≡ false)
    → x < 2 ^ width F
unfolding is_set bit_at
word_low Ewah x h g = h
word_low Wah x h g = omega (arith, eqb-false (x / 2 ^ 31 % 2) 1 (g 31 (omega arith) (omega arith)))
