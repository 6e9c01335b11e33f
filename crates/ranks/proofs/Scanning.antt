-- Rows of one value, counted block by block, and the row where so many of them are cut.
-- Assumes nothing.
use Prim.Native.Nat.{ℕ, zero, suc, ◌+◌, ◌-◌, ◌*◌, ◌≤◌, ◌<◌}
use mathlib.Core.Bool.{Bool}
use mathlib.Core.Path.{◌≡◌, refl, ap, ◌∙◌}
use mathlib.Core.List.{List}
use native.Mathlib.Nat.{zero-mul, add-mul, suc-mul, mul-le-mul_right}
use native.Mathlib.Omega.{arith}
use Rattle.meaning.specs.Rows.{sum_below, count_below}
use Rattle.meaning.specs.Segment.{segment_count}
use Rattle.meaning.specs.Format.{width}
use Rattle.meaning.specs.Index.{format_of, row_count}
use Rattle.meaning.specs.declared.Format.{Format}
use Rattle.laws.proofs.Formats.{width-pos}
use Rattle.laws.proofs.RowWords.{begins}
use Rattle.laws.proofs.Counting.{count_add}
use Rattle.laws.proofs.Counted.{count-upto}
use Rattle.blocks.proofs.Walks.{S}
use Rattle.pivots.specs.Splits.{Reached}
use Rattle.ranks.specs.Found.{rows_level, Scanned}
use Rattle.ranks.proofs.Along.{rows_before}

-- the last segment begins before the last row
pub rows-most : (F : Format) (R : ℕ) → segment_count (width F) R * width F ≤ R + width F
rows-most F R = go (segment_count (width F) R) refl
  where
    go : (n : ℕ) → segment_count (width F) R ≡ n → n * width F ≤ R + width F
    go zero e = omega (arith, zero-mul (width F))
    go (suc n) e = omega (arith, suc-mul n (width F), begins (width F) (width-pos F) R n (omega arith))

module _ (index list : List ℕ) (m most : ℕ) where
  abbrev p : ℕ → Bool
  p = rows_level index list m

  abbrev w : ℕ
  w = width (format_of index)

  -- ---- so many are reached within the n segments from o on, of which c have the value
  module _ (o n total c : ℕ) (inside : o < S index) (within : o + n ≤ S index)
      (so_far : total ≡ count_below (rows_before index o) (rows_level index list m))
      (counted : count_below (rows_before index (o + n)) (rows_level index list m)
      ≡ count_below (rows_before index o) (rows_level index list m) + c) where
    -- before these segments all rows are rows
    starts : rows_before index o ≡ o * w
    starts = omega (arith, begins w (width-pos (format_of index)) (row_count index) o inside)

    -- their bits have as many
    enough : c ≤ count_below (n * w) (λ k. p (o * w + k))
    enough =
        let up : rows_before index (o + n) ≤ o * w + n * w = omega (arith, add-mul o n w) in
        omega (
          arith,
          counted,
          count-upto p (rows_before index (o + n)) (o * w + n * w) up,
          count_add (o * w) (n * w) p,
          ap (λ (k : ℕ). count_below k p) starts,
        )

    pub reached : total ≤ most → most ≤ total + c → (behind : ℕ) → Reached (format_of index) o n p (most - total) behind
        → (o * w + behind ≤ S index * w) × Scanned index list m most (total + c) (o * w + behind)
    reached l h behind r =
        let e = r (omega (arith, enough)) in
        let inner : o * w + behind ≤ S index * w =
        omega (arith, e.0, add-mul o n w, mul-le-mul_right w within) in (
          inner,
          record {
            found = λ g. record {
              within = inner;
              before = count_add (o * w) behind p ∙ omega (arith, e.1, so_far, ap (λ (k : ℕ). count_below k p) starts);
            };
            counted = λ g.
                absurd (omega (arith, so_far, counted, count-upto p (rows_before index (o + n)) (row_count index) (omega arith)));
          },
        )

  -- ---- they are not: all rows were counted
  pub scanned-all : (o total : ℕ) → S index ≤ o → (0 < o → total < most) → total ≡ count_below (row_count index) (rows_level index list m)
      → (o ≡ 0 → total ≡ 0) → Scanned index list m most total 0
  unfolding count_below sum_below
  scanned-all zero total l h e z = record {
    found = λ g. record { within = omega arith; before = omega (arith, g, e, z refl) };
    counted = λ g. e;
  }
  scanned-all (suc o) total l h e z = record { found = λ g. absurd (omega (arith, h (omega arith))); counted = λ g. e }
