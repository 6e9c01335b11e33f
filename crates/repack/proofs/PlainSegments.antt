-- Plain words, 32 rows each, seen as segments of w rows.
-- Assumes nothing.
use Prim.Native.Nat.{ℕ, zero, suc, ◌+◌, ◌*◌, ◌/◌, ◌%◌, ◌^◌, ◌≤◌, ◌<◌}
use mathlib.Core.Bool.{Bool, ◌&&◌}
use mathlib.Core.Path.{◌≡◌, sym, ap, ◌∙◌}
use mathlib.Core.List.{List}
use lib.Dec.{ltb}
use lib.ListN.{length, get_or}
use native.Mathlib.Nat.{div-add-mod', mod-lt, le-div_iff_mul-le}
use native.Mathlib.Decide.{dec_le}
use native.Mathlib.Omega.{arith}
use borrow.Author.Tests.{lt-ltb, le-ltb}
use Rattle.meaning.specs.Limits.{most_segments}
use Rattle.meaning.specs.Segment.{segment_count, word_of, has_row, from_rows}
use Rattle.laws.specs.Demands.{PlainRows}
use Rattle.laws.proofs.RowWords.{word-ext, word-self, get_d_tabulate}
use Rattle.laws.proofs.RowWords.{has-at, pad-clear, count-zero, count-suc, rows_fit, segments-few}
use Rattle.laws.proofs.WordJoin.{word-join}
use Rattle.repack.proofs.Joining.{word-part}

-- ---- words read

module _ (xs : List ℕ) where
  -- the rows from row `from` on
  abbrev rows_on : (from : ℕ) → ℕ → Bool
  rows_on from j = has_row 32 xs (from + j)

  -- a word is that of its rows
  plain_word : (k : ℕ) → get_or xs k 0 < 2 ^ 32 → get_or xs k 0 ≡ word_of 32 (rows_on (k * 32))
  plain_word k fit =
      sym (word-self 32 (get_or xs k 0) fit)
      ∙ word-ext 32 _ (rows_on (k * 32)) (λ j h. sym (has-at 32 (omega arith) xs k j h))

  -- two words are that of their 64 rows
  pub plain-pair : (k : ℕ) → get_or xs k 0 < 2 ^ 32 → get_or xs (k + 1) 0 < 2 ^ 32
      → get_or xs k 0 + get_or xs (k + 1) 0 * 2 ^ 32 ≡ word_of 64 (rows_on (k * 32))
  plain-pair k low high =
      let next : get_or xs (k + 1) 0 ≡ word_of 32 (λ j. rows_on (k * 32) (32 + j)) =
      plain_word (k + 1) high ∙ word-ext 32 (rows_on ((k + 1) * 32)) _ (λ j h. ap (has_row 32 xs) (omega arith)) in
      omega (arith, plain_word k low, next, word-join 32 32 (rows_on (k * 32)))

  -- n rows from row `at` on, out of the 64 of its word and the next
  pub plain-part : (at n : ℕ) → n ≤ 32
      → word_of 64 (rows_on (at / 32 * 32)) / 2 ^ (at % 32) % 2 ^ n ≡ word_of n (rows_on at)
  plain-part at n h =
      word-part 64 (at % 32) n (rows_on (at / 32 * 32)) (omega (arith, mod-lt at {m = 32} (omega arith)))
      ∙ word-ext n _ (rows_on at) (λ j g. ap (has_row 32 xs) (omega (arith, div-add-mod' at 32)))

-- ---- segments

module _ (w R : ℕ) where
  -- the word of segment i of the R rows q
  abbrev pub cell : (q : ℕ → Bool) (i : ℕ) → ℕ
  cell q i = word_of w (λ j. ltb (i * w + j) R && q (i * w + j))

  pub from-word : (q : ℕ → Bool) (i : ℕ) → i < segment_count w R → get_or (from_rows w R q) i 0 ≡ cell q i
  unfolding from_rows
  from-word q i h = get_d_tabulate (segment_count w R) (cell q) i h

  -- it begins with a row
  pub starts-inside : 0 < w → (i : ℕ) → i < segment_count w R → i * w < R
  starts-inside pos i h = go R h
    where
      go : (n : ℕ) → i < segment_count w n → i * w < n
      go zero l = absurd (omega (arith, count-zero w pos))
      go (suc r) l = let k : i * w ≤ r = (le-div_iff_mul-le pos).0 (omega (arith, count-suc w pos r)) in omega arith

module _ (w : ℕ) {R : ℕ} {xs : List ℕ} (g : PlainRows R xs) (i : ℕ) (h : i < segment_count w R) where
  -- what reading segment i out of plain words of R rows asks
  pub segment-inside : 0 < w → (i * w < 32 * length xs) × (length xs ≤ most_segments)
  segment-inside pos = (
    omega (arith, g.count, rows_fit 32 (omega arith) R, starts-inside w R pos i h),
    omega (arith, g.count, segments-few R g.few),
  )

  -- and its word, read so, is that of the rows
  pub segment-is : word_of w (λ j. has_row 32 xs (i * w + j)) ≡ get_or (from_rows w R (has_row 32 xs)) i 0
  segment-is = word-ext w _ _ (λ j _. real (i * w + j)) ∙ sym (from-word w R (has_row 32 xs) i h)
    where
      real : (r : ℕ) → has_row 32 xs r ≡ ltb r R && has_row 32 xs r
      real r = elim (dec_le (suc r) R) [
        | yes k ↦ rw (lt-ltb r R k)
        | no k ↦ pad-clear 32 (omega arith) R xs g.count g.pads r (omega arith) ∙ rw (le-ltb r R (omega arith))
      ]
