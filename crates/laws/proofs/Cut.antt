-- Segments whose last one may have pad bits set have the rows that they have without them, for any width w.
-- Assumes nothing.
use Prim.Native.Nat.{ℕ, zero, suc, ◌+◌, ◌-◌, ◌*◌, ◌/◌, ◌%◌, ◌^◌, ◌≤◌, ◌<◌, min}
use mathlib.Core.Bool.{Bool}
use mathlib.Core.Path.{◌≡◌, refl, sym, ap, ◌∙◌}
use mathlib.Core.List.{List, [], ◌∷◌, ◌++◌}
use lib.Dec.{eqb, ltb}
use lib.ListN.{length, get_or, set}
use lib.Pow.{field, mod-mod-pow}
use native.Mathlib.Nat.{div-add-mod', mod-lt, le-div_iff_mul-le, suc-mul}
use native.Mathlib.Decide.{dec_le}
use native.Mathlib.Omega.{arith}
use borrow.Author.Tests.{lt-ltb, le-ltb}
use Rattle.meaning.specs.Segment.{Segment, kind, kinds, rows_in, segment_count, last_rows, last_limit, is_set, bit_at, has_row, from_rows}
use Rattle.laws.proofs.Segments.{cut, cut-length, cut_inside, cut-end, cut-last, cut_below, kinds-inside, kinds-end, last_some}
use Rattle.laws.proofs.RowWords.{count-suc, count-zero, rows-decide, begins}

-- a bit below k of a word cut at k
low_bit : (x j d : ℕ) → x % 2 ^ (suc d + j) / 2 ^ j % 2 ≡ x / 2 ^ j % 2
low_bit x j d =
    let e : d + 1 ≡ suc d = omega arith in
    let m : x / 2 ^ j % 2 ^ suc d % 2 ≡ x / 2 ^ j % 2 = rw e at (mod-mod-pow (x / 2 ^ j) d 1) in
    rw (field x (suc d) j) m

pub bit_below : (x j k : ℕ) → j < k → x % 2 ^ k / 2 ^ j % 2 ≡ x / 2 ^ j % 2
bit_below x j k h = let e : suc (k - suc j) + j ≡ k = omega arith in rw e at (low_bit x j (k - suc j))

-- the last of some segments, which lie before others, cut in place
pub cut-part : (w R : ℕ) (xs ys : List ℕ) (n : ℕ) → length xs ≡ suc n → set (xs ++ ys) n (get_or xs n 0 % last_limit w R) ≡ cut w R xs ++ ys
unfolding cut
cut-part w R [] ys n e = absurd (omega arith)
cut-part w R (x ∷ []) ys zero e = refl
cut-part w R (x ∷ []) ys (suc n) e = absurd (omega arith)
cut-part w R (x ∷ y ∷ zs) ys zero e = absurd (omega arith)
cut-part w R (x ∷ y ∷ zs) ys (suc n) e = ap (λ (l : List ℕ). x ∷ l) (cut-part w R (y ∷ zs) ys n (omega arith))

pub cut-none : (w R : ℕ) (xs : List ℕ) → length xs ≡ 0 → cut w R xs ≡ xs
unfolding cut
cut-none w R [] e = refl
cut-none w R (x ∷ xs) e = absurd (omega arith)

module _ (w : ℕ) (pos : 0 < w) where
  pub cut-rows : (R : ℕ) (xs : List ℕ) → length xs ≡ segment_count w R → (r : ℕ) → r < R → has_row w (cut w R xs) r ≡ has_row w xs r
  unfolding has_row is_set bit_at last_limit last_rows
  cut-rows zero xs n r h = absurd (omega arith)
  cut-rows (suc s) xs n r h =
      let le : r / w ≤ s / w = (le-div_iff_mul-le pos).1 (omega (arith, div-add-mod' r w)) in
      elim (dec_le (suc (suc (r / w))) (length xs)) [
        | yes g ↦ rw (cut_inside w (suc s) xs (r / w) g)
        | no g ↦
            let q : r / w ≡ s / w = omega (arith, count-suc w pos s) in
            let j : r % w < last_rows w (suc s) = low q in
            rw (cut-end w (suc s) xs (r / w) (omega (arith, count-suc w pos s)))
            (ap (λ (b : ℕ). eqb b 1) (bit_below (get_or xs (r / w) 0) (r % w) (last_rows w (suc s)) j))
      ]
    where
      low : r / w ≡ s / w → r % w < last_rows w (suc s)
      low q =
          let k : suc s - 1 ≡ s = omega arith in
          let d : r / w * w ≡ s / w * w = ap (λ (z : ℕ). z * w) q in
          rw k (omega (arith, div-add-mod' r w, div-add-mod' s w))

  -- segments of w bits, cut, are those of their rows
  pub cut-decide : (R : ℕ) (p : ℕ → Bool) (xs : List ℕ) → length xs ≡ segment_count w R → ((i : ℕ) → get_or xs i 0 < 2 ^ w)
      → ((r : ℕ) → r < R → has_row w xs r ≡ p r) → cut w R xs ≡ from_rows w R p
  cut-decide R p xs n fit h =
      rows-decide w pos R p (cut w R xs) (cut-length w R xs ∙ n) (cut_below w R (2 ^ w) xs (omega (arith, fit 0)) fit) (cut-last w R xs)
      (λ r k. cut-rows R xs n r k ∙ h r k)

  -- ---- how many rows a segment has

  pub rows_inside : (R i : ℕ) → suc i < segment_count w R → rows_in w R i ≡ w
  unfolding rows_in
  rows_inside R i h = omega (arith, begins w pos R (suc i) h, suc-mul i w)

  pub rows_end : (R i : ℕ) → suc i ≡ segment_count w R → rows_in w R i ≡ last_rows w R
  unfolding rows_in last_rows
  rows_end zero i h = absurd (omega (arith, count-zero w pos))
  rows_end (suc r) i h =
      let q : i ≡ r / w = omega (arith, count-suc w pos r) in
      let k : suc r - 1 ≡ r = omega arith in
      rw (k, q) (omega (arith, div-add-mod' r w, mod-lt r pos))

  pub kinds-at : (R : ℕ) (xs : List ℕ) (i : ℕ) (s : Segment) → length xs ≡ segment_count w R → i < segment_count w R
      → get_or (kinds w R xs) i s ≡ kind (rows_in w R i) (get_or xs i 0)
  kinds-at R xs i s n h = elim (dec_le (suc (suc i)) (segment_count w R)) [
    | yes g ↦ kinds-inside w R xs i s (omega arith) ∙ ap (λ (k : ℕ). kind k (get_or xs i 0)) (sym (rows_inside R i g))
    | no g ↦ (let e : suc i ≡ segment_count w R = omega arith in kinds-end w R xs i s (omega arith) ∙ ap (λ (k : ℕ). kind k (get_or xs i 0)) (sym (rows_end R i e)))
  ]

  -- a segment of R rows has one
  pub rows-some : (R i : ℕ) → i < segment_count w R → 0 < rows_in w R i
  rows-some R i h = elim (dec_le (suc (suc i)) (segment_count w R)) [
    | yes g ↦ omega (arith, rows_inside R i g)
    | no g ↦ (let e : suc i ≡ segment_count w R = omega arith in omega (arith, rows_end R i e, last_some w R pos))
  ]

  pub rows-le : (R i : ℕ) → rows_in w R i ≤ w
  unfolding rows_in
  rows-le R i = omega arith

  -- which of its bits are rows
  pub rows-bit : (R i j : ℕ) → j < w → ltb j (rows_in w R i) ≡ ltb (i * w + j) R
  unfolding rows_in
  rows-bit R i j h = elim (dec_le (suc (i * w + j)) R) [
    | yes g ↦ lt-ltb j (min w (R - i * w)) (omega arith) ∙ sym (lt-ltb (i * w + j) R g)
    | no g ↦ le-ltb j (min w (R - i * w)) (omega arith) ∙ sym (le-ltb (i * w + j) R (omega arith))
  ]
