-- The pad bits that are set in segments of R rows, for any width w, by the word of the last segment.
-- Assumes nothing.
use Prim.Native.Nat.{ℕ, suc, ◌+◌, ◌-◌, ◌*◌, ◌/◌, ◌%◌, ◌^◌, ◌<◌}
use mathlib.Core.Bool.{true}
use mathlib.Core.Path.{◌≡◌, sym, ap, ◌∙◌}
use mathlib.Core.List.{List}
use lib.Dec.{eqb}
use lib.ListN.{length, get_or}
use native.Mathlib.Nat.{suc-mul, zero-mul, one-mul}
use native.Mathlib.Omega.{arith}
use Rattle.meaning.specs.Rows.{count_below}
use Rattle.meaning.specs.Segment.{segment_count, last_limit, last_of, has_row, is_set, bit_at, fill, all_set, pads}
use Rattle.laws.proofs.RowWords.{has-at, begins, pad-clear, last-get_d}
use Rattle.laws.proofs.Counted.{count_none}
use Rattle.laws.proofs.Counting.{count-all, full-set}

-- no segments
pub pads-empty : (w R : ℕ) (xs : List ℕ) → length xs ≡ 0 → pads w R xs ≡ 0
unfolding count_below
pads-empty w R xs e =
    let z : length xs * w - R ≡ 0 = rw e (omega (arith, zero-mul w)) in
    ap (λ (n : ℕ). count_below n (λ r. has_row w xs (R + r))) z

-- segment n is the last
module _ (w : ℕ) (pos : 0 < w) (R : ℕ) (xs : List ℕ) (n : ℕ)
    (count : length xs ≡ segment_count w R) (end : length xs ≡ suc n) where
  -- it sets none
  pub pads-none : get_or xs n 0 < last_limit w R → pads w R xs ≡ 0
  pads-none h =
      let low : last_of xs < last_limit w R = rw (last-get_d xs n end) h in
      count_none (length xs * w - R) (λ r. has_row w xs (R + r)) (λ r g. pad-clear w pos R xs count low (R + r) (omega arith))

  full-row : get_or xs n 0 ≡ fill w 1 → (r : ℕ) → r < length xs * w - R → has_row w xs (R + r) ≡ true
  unfolding is_set bit_at fill all_set
  full-row f r h =
      let j = R + r - n * w in
      let l : n * w < R = begins w pos R n (omega arith) in
      let m : length xs * w ≡ n * w + w = ap (λ (k : ℕ). k * w) end ∙ suc-mul n w in
      let e : n * w + j ≡ R + r = omega arith in
      ap (has_row w xs) (sym e)
      ∙ has-at w pos xs n j (omega arith)
      ∙ ap (λ (x : ℕ). eqb (x / 2 ^ j % 2) 1) (f ∙ one-mul (2 ^ w - 1))
      ∙ full-set w j (omega arith)

  -- it is clean, of ones: it sets all
  pub pads-all : get_or xs n 0 ≡ fill w 1 → pads w R xs ≡ length xs * w - R
  pads-all f = count-all (length xs * w - R) (λ r. has_row w xs (R + r)) (full-row f)
