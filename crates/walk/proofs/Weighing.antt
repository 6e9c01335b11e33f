-- Surveys of no places and of one place more, and how far their numbers can go.
-- Assumes nothing.
use Prim.Native.Nat.{ℕ, zero, suc, ◌+◌, ◌≤◌, ◌<◌, min}
use mathlib.Core.Path.{◌≡◌, refl, sym, ap, ap₂, ◌∙◌}
use mathlib.Core.List.{List}
use native.Mathlib.Nat.{zero-div}
use native.Mathlib.Numerals.{add-one}
use native.Mathlib.Omega.{arith}
use lib.ListN.{replicate}
use Rattle.meaning.specs.Limits.{most_named, counter_planes}
use Rattle.meaning.specs.Rows.{sum_below}
use Rattle.meaning.specs.Segment.{bit_at}
use Rattle.laws.proofs.Sums.{sum-ext, sum-le}
use Rattle.counters.specs.Counters.{count_at}
use Rattle.words.proofs.BitLaws.{bit-lt}
use Rattle.ewah.specs.declared.cursor.Cursor.{Cursor}
use Rattle.ewah.specs.declared.cursor.Piece as code
use Rattle.ewah.specs.declared.cursor.Piece.TheVariants.{Clean, Dirty}
use Rattle.ewah.specs.Cursors.{ValueLow, left_of}
use Rattle.walk.specs.declared.survey.Survey.{Survey}
use Rattle.walk.specs.Queries.{cursor_of}
use Rattle.walk.specs.Surveys.{ones_in, dirty_in, bit_in, least_below, Room, Weighed, Surveyed}

-- ---- one piece

low_ones : (p : code.Piece) → ValueLow p → ones_in p ≤ 1
low_ones (Clean v n) h = omega arith
low_ones (Dirty x) h = omega arith

low-dirty : (p : code.Piece) → dirty_in p ≤ 1
low-dirty (Clean v n) = omega arith
low-dirty (Dirty x) = omega arith

low_bit : (p : code.Piece) (j : ℕ) → bit_in p j ≤ 1
low_bit (Clean v n) j = omega arith
low_bit (Dirty x) j = omega (arith, bit-lt x j)

-- ---- the first m places

-- planes that count nothing
count-zero : (k j : ℕ) → count_at (replicate k 0) j ≡ 0
unfolding count_at bit_at
count-zero zero j = refl
count-zero (suc k) j = rw (zero-div, count-zero k j)

pub surveyed-none : (ns : List Cursor) → Surveyed ns 0 (record { least = 4294967295; ones = 0; dirty = 0; planes = replicate counter_planes 0 })
unfolding least_below sum_below
surveyed-none ns = record { least-is = refl; ones_is = refl; dirty-is = refl; long = refl; counts = λ j h. count-zero counter_planes j }

least-ext : (m : ℕ) (f g : ℕ → ℕ) → ((i : ℕ) → i < m → f i ≡ g i) → least_below m f ≡ least_below m g
unfolding least_below
least-ext zero f g h = refl
least-ext (suc m) f g h = ap₂ min (least-ext m f g (λ i l. h i (omega arith))) (h m (omega arith))

module _ (ns : List Cursor) (m : ℕ) (s : Survey) (a : Surveyed ns m s) where
  pub surveyed-more : (r : Survey) → Weighed s (cursor_of ns m).piece r → Surveyed ns (m + 1) r
  unfolding least_below sum_below
  surveyed-more r w =
      rw (add-one m)
      (record {
        least-is = w.least-is ∙ ap (λ (n : ℕ). min n (left_of (cursor_of ns m).piece)) a.least-is;
        ones_is = omega (arith, w.ones_is, a.ones_is);
        dirty-is = omega (arith, w.dirty-is, a.dirty-is);
        long = w.long;
        counts = λ j h. omega (arith, w.counts j h, a.counts j h);
      })

  pub surveyed-room : m < most_named → ((i : ℕ) → i < m → ValueLow (cursor_of ns i).piece) → Room s
  surveyed-room l low =
      record {
        ones_low = omega (arith, a.ones_is, sum-le m (λ i. ones_in (cursor_of ns i).piece) (λ i h. low_ones (cursor_of ns i).piece (low i h)));
        dirty-low = omega (arith, a.dirty-is, sum-le m (λ i. dirty_in (cursor_of ns i).piece) (λ i h. low-dirty (cursor_of ns i).piece));
        long = a.long;
        counts-low = λ j h. omega (arith, a.counts j h, sum-le m (λ i. bit_in (cursor_of ns i).piece j) (λ i g. low_bit (cursor_of ns i).piece j));
      }

  -- it is the survey of any numbers that have the same cursors
  pub surveyed-same : (ns' : List Cursor) → ((i : ℕ) → i < m → cursor_of ns' i ≡ cursor_of ns i) → Surveyed ns' m s
  surveyed-same ns' h =
      record {
        least-is = a.least-is ∙ least-ext m (λ i. left_of (cursor_of ns i).piece) (λ i. left_of (cursor_of ns' i).piece) (λ i g. by left_of i g);
        ones_is = a.ones_is ∙ sum-ext m (λ i. ones_in (cursor_of ns i).piece) (λ i. ones_in (cursor_of ns' i).piece) (λ i g. by ones_in i g);
        dirty-is = a.dirty-is ∙ sum-ext m (λ i. dirty_in (cursor_of ns i).piece) (λ i. dirty_in (cursor_of ns' i).piece) (λ i g. by dirty_in i g);
        long = a.long;
        counts = λ j l. a.counts j l ∙ sum-ext m (λ i. bit_in (cursor_of ns i).piece j) (λ i. bit_in (cursor_of ns' i).piece j) (λ i g. by (λ p. bit_in p j) i g);
      }
    where
      by : (f : code.Piece → ℕ) (i : ℕ) → i < m → f (cursor_of ns i).piece ≡ f (cursor_of ns' i).piece
      by f i g = ap (λ (c : Cursor). f c.piece) (sym (h i g))
