-- One segment of two columns: what the words of their places say of its rows, and so which segment each body of the answer
-- has there.
-- Assumes nothing.
use Prim.Native.Nat.{ℕ, zero, suc, ◌+◌, ◌*◌, ◌%◌, ◌^◌, ◌≤◌, ◌<◌}
use mathlib.Core.Bool.{Bool, ◌&&◌}
use mathlib.Core.Path.{◌≡◌, sym, ap, ap₂, ◌∙◌}
use mathlib.Core.List.{List}
use lib.ListN.{length, get_or}
use native.Mathlib.Omega.{arith}
use Rattle.meaning.specs.Rows.{none}
use Rattle.meaning.specs.Segment.{clean, kind, rows_in, is_set, segment_count}
use Rattle.meaning.specs.Format.{width}
use Rattle.meaning.specs.declared.Format.{Format}
use Rattle.meaning.specs.Index.{format_of, row_count}
use Rattle.meaning.specs.Question.{intersection}
use Rattle.column_meaning.specs.Column.{slice, column_of, pair_value}
use Rattle.meaning.specs.declared.Pairing.{Pairing}
use Rattle.column_meaning.specs.Columns.{existing, value_at, pair_column}
use Rattle.laws.proofs.ColumnValues.{slices-at}
use Rattle.blocks.proofs.Values.{WordsAt, number_of, exists-bit, value-number}
use Rattle.blocks.proofs.Segmented.{segs, segment-is}

-- z b is the word of body b of the answer, made of the words x and y of two columns, in segments of w rows
pub record PairWords (op : Pairing) (w n : ℕ) (x y z : ℕ → ℕ) : Type 0 where
  pub exists : (j : ℕ) → j < w → is_set (z 0) j ≡ is_set (x 0) j && is_set (y 0) j
  pub digits : (b j : ℕ) → b < n → j < w
      → is_set (z (suc b)) j ≡ is_set (z 0) j && is_set (pair_value op n (number_of x n j) (number_of y n j)) b

-- the rows of body b
abbrev pub sets : (op : Pairing) (index first second : List ℕ) (n b : ℕ) → ℕ → Bool
sets op index first second n b = get_or (pair_column index op n first second) b none

module _ (op : Pairing) (index first second : List ℕ) (n : ℕ) (f1 : 1 ≤ length first) (f2 : 1 ≤ length second)
    (l1 : length first ≤ n + 1) (l2 : length second ≤ n + 1) where
  abbrev F : Format
  F = format_of index

  abbrev R : ℕ
  R = row_count index

  abbrev both : ℕ → Bool
  both = intersection (existing index first) (existing index second)

  abbrev v : ℕ → ℕ
  v r = pair_value op n (value_at index first r) (value_at index second r)

  set-later : (b : ℕ) → b < n → sets op index first second n (suc b) ≡ slice both v b
  unfolding pair_column column_of
  set-later b h = slices-at both v 0 n b h ∙ ap (slice both v) (omega arith)

  module _ (s : ℕ) (x y z : ℕ → ℕ) (wx : WordsAt index first s x) (wy : WordsAt index second s y)
      (p : PairWords op (width (format_of index)) n x y z) where
    both_is : (j : ℕ) → j < width F → both (s * width F + j) ≡ is_set (x 0) j && is_set (y 0) j
    unfolding intersection
    both_is j k = ap₂ (λ (a b : Bool). a && b) (exists-bit index s j k first x wx f1) (exists-bit index s j k second y wy f2)

    v-is : (j : ℕ) → j < width F → v (s * width F + j) ≡ pair_value op n (number_of x n j) (number_of y n j)
    v-is j k = ap₂ (pair_value op n) (value-number index s j k first x n wx f1 l1) (value-number index s j k second y n wy f2 l2)

    rows : (b : ℕ) → b ≤ n → (j : ℕ) → j < width F → is_set (z b) j ≡ sets op index first second n b (s * width F + j)
    unfolding pair_column column_of
    rows zero l j k = p.exists j k ∙ sym (both_is j k)
    rows (suc b) l j k =
        p.digits b j (omega arith) k
        ∙ ap (λ (a : Bool). a && is_set (pair_value op n (number_of x n j) (number_of y n j)) b) (p.exists j k)
        ∙ sym (ap (λ (q : ℕ → Bool). q (s * width F + j)) (set-later b (omega arith))
        ∙ unfold slice in ap₂ (λ (a : Bool) (t : ℕ). a && is_set t b) (both_is j k) (v-is j k))

    -- the rows in the word of body b are its segment
    pub block-segment : (b : ℕ) → b ≤ n → s < segment_count (width F) R
        → get_or (segs F R (sets op index first second n b)) s (clean 0) ≡ kind (rows_in (width F) R s) (z b % 2 ^ rows_in (width F) R s)
    block-segment b l h = segment-is F R (sets op index first second n b) s (z b) h (λ j k inside. rows b l j k)
