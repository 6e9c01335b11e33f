-- Set rows are counted segment by segment, for any width w, and the nth set row is found in its segment.
-- Assumes nothing.
use Prim.Native.Nat.{ℕ, zero, suc, ◌+◌, ◌-◌, ◌*◌, ◌/◌, ◌%◌, ◌^◌, ◌≤◌, ◌<◌}
use mathlib.Core.Bool.{Bool, true, false}
use mathlib.Core.Path.{◌≡◌, refl, sym, ap, ap₂, ◌∙◌}
use mathlib.Core.List.{List, [], ◌∷◌, ◌++◌}
use lib.ListN.{length, get_or, take, drop, replicate, take-append-drop, length-append, length-replicate, get_or-replicate, get_or-append}
use lib.Pow.{pow_pos, ones_split, high, ones_lt}
use lib.Seq.{take-length, length-take-le, take-add, get_or-append-add, get_or-drop}
use native.Mathlib.Nat.{zero-div, div-add-mod', mod-lt, div-lt_iff_lt-mul, zero-mul, one-mul, suc-mul, add-mul, mul-le-mul_right}
use native.Mathlib.Numerals.{add-one}
use native.Mathlib.Omega.{arith}
use Rattle.meaning.specs.Rows.{bit, sum_below, count_below}
use Rattle.meaning.specs.Segment.{is_set, bit_at, has_row, ones, segment_count, fill, all_set}
use Rattle.laws.specs.Demands.{IsNth}
use Rattle.laws.proofs.RowWords.{bit_le, rows_fit, has-at}
use Rattle.laws.proofs.Counted.{count_none}
use Rattle.laws.proofs.Sums.{sum-ext, sum-le, sum-join}

-- ---- counts

pub count-ext : (n : ℕ) (p q : ℕ → Bool) → ((r : ℕ) → r < n → p r ≡ q r) → count_below n p ≡ count_below n q
unfolding count_below
count-ext n p q h = sum-ext n (λ r. bit (p r)) (λ r. bit (q r)) (λ r g. ap bit (h r g))

pub count_add : (m n : ℕ) (p : ℕ → Bool) → count_below (m + n) p ≡ count_below m p + count_below n (λ r. p (m + r))
unfolding count_below
count_add m n p = sum-join m n (λ r. bit (p r))

pub count-le : (n : ℕ) (p : ℕ → Bool) → count_below n p ≤ n
unfolding count_below
count-le n p = sum-le n (λ r. bit (p r)) (λ r g. bit_le (p r))

pub count-all : (n : ℕ) (p : ℕ → Bool) → ((r : ℕ) → r < n → p r ≡ true) → count_below n p ≡ n
unfolding count_below sum_below bit
count-all zero p h = refl
count-all (suc n) p h = rw (h n (omega arith)) (omega (arith, count-all n p (λ r g. h r (omega arith))))

-- ---- the bits of a clean segment

pub zero_clear : (j : ℕ) → is_set 0 j ≡ false
unfolding is_set
zero_clear j = rw (zero-div (2 ^ j))

-- bit j of j + 1 ones or more
full-bit : (d j : ℕ) → is_set (2 ^ (suc d + j) - 1) j ≡ true
unfolding is_set bit_at
full-bit d j =
    let o : (2 ^ suc d - 1) % 2 ≡ 1 = omega (arith, pow_pos d) in
    rw (ones_split (suc d) j, high (2 ^ suc d - 1) j (ones_lt j), o)

pub full-set : (w j : ℕ) → j < w → is_set (2 ^ w - 1) j ≡ true
full-set w j h = let e : suc (w - suc j) + j ≡ w = omega arith in rw e at (full-bit (w - suc j) j)

pub zero-count : (w : ℕ) → count_below w (is_set 0) ≡ 0
zero-count w = count_none w (is_set 0) (λ j h. zero_clear j)

pub full-count : (w : ℕ) → count_below w (is_set (2 ^ w - 1)) ≡ w
full-count w = count-all w (is_set (2 ^ w - 1)) (full-set w)

pub fill-count : (w v : ℕ) → v < 2 → count_below w (is_set (fill w v)) ≡ v * w
unfolding fill all_set
fill-count w zero h = rw (zero-mul (2 ^ w - 1), zero-mul w) (zero-count w)
fill-count w (suc zero) h = rw (one-mul (2 ^ w - 1), one-mul w) (full-count w)
fill-count w (suc (suc v)) h = absurd (omega arith)

-- ---- the set bits of a list of segments

pub ones-append : (w : ℕ) (xs ys : List ℕ) → ones w (xs ++ ys) ≡ ones w xs + ones w ys
unfolding ones
ones-append w [] ys = omega arith
ones-append w (x ∷ xs) ys = omega (arith, ones-append w xs ys)

pub ones-replicate : (w n x : ℕ) → ones w (replicate n x) ≡ n * count_below w (is_set x)
unfolding ones
ones-replicate w zero x = omega arith
ones-replicate w (suc n) x = rw suc-mul (omega (arith, ones-replicate w n x))

pub ones-take-suc : (w : ℕ) (xs : List ℕ) (i : ℕ) → ones w (take (suc i) xs) ≡ ones w (take i xs) + count_below w (is_set (get_or xs i 0))
unfolding ones
ones-take-suc w [] zero = omega (arith, zero-count w)
ones-take-suc w [] (suc i) = omega (arith, zero-count w)
ones-take-suc w (x ∷ xs) zero = omega arith
ones-take-suc w (x ∷ xs) (suc i) = omega (arith, ones-take-suc w xs i)

-- one segment more, as code counts them
pub ones-next : (w : ℕ) (xs : List ℕ) (i : ℕ) → ones w (take (i + 1) xs) ≡ ones w (take i xs) + count_below w (is_set (get_or xs i 0))
ones-next w xs i = rw (add-one i) (ones-take-suc w xs i)

-- THE LAW OF BLOCKS: the set bits of the n segments from `at` on are the sum of what each of them has
pub ones-block : (w : ℕ) (xs : List ℕ) (at n : ℕ)
    → ones w (take n (drop at xs)) ≡ sum_below n (λ i. count_below w (is_set (get_or xs (at + i) 0)))
unfolding ones sum_below
ones-block w xs at zero = refl
ones-block w xs at (suc n) =
    ones-take-suc w (drop at xs) n
    ∙ ap₂ (λ (m k : ℕ). m + k) (ones-block w xs at n) (ap (λ (x : ℕ). count_below w (is_set x)) (get_or-drop at xs n 0))

-- the set bits up to segment e: those up to i, and those of the part from i to e
pub ones-part : (w : ℕ) (xs : List ℕ) (i e : ℕ) → i ≤ e
    → ones w (take e xs) ≡ ones w (take i xs) + ones w (take (e - i) (drop i xs))
ones-part w xs i e h =
    let k : i + (e - i) ≡ e = omega arith in
    ap (λ (n : ℕ). ones w (take n xs)) (sym k) ∙ ap (ones w) (take-add i (e - i) xs)
    ∙ ones-append w (take i xs) (take (e - i) (drop i xs))

pub ones-le : (w : ℕ) (xs : List ℕ) → ones w xs ≤ length xs * w
unfolding ones
ones-le w [] = omega arith
ones-le w (x ∷ xs) = rw suc-mul (omega (arith, ones-le w xs, count-le w (is_set x)))

pub ones-take-le : (w : ℕ) (xs : List ℕ) (i : ℕ) → ones w (take i xs) ≤ length xs * w
ones-take-le w xs i =
    let l : ones w (take i xs) + ones w (drop i xs) ≡ ones w xs = sym (ones-append w (take i xs) (drop i xs)) ∙ ap (ones w) (take-append-drop i xs) in
    omega (arith, ones-le w xs)

-- ---- rows counted segment by segment

module _ (w : ℕ) (pos : 0 < w) where
  -- the set rows among the first j bits of segment i
  in-segment : (xs : List ℕ) (i j : ℕ) → j ≤ w → count_below (i * w + j) (has_row w xs) ≡ count_below (i * w) (has_row w xs) + count_below j (is_set (get_or xs i 0))
  unfolding is_set bit_at
  in-segment xs i j h =
      count_add (i * w) j (has_row w xs)
      ∙ ap (λ (n : ℕ). count_below (i * w) (has_row w xs) + n) (count-ext j (λ r. has_row w xs (i * w + r)) (is_set (get_or xs i 0)) (λ r g. has-at w pos xs i r (omega arith)))

  pub whole-segments : (xs : List ℕ) (i : ℕ) → count_below (i * w) (has_row w xs) ≡ ones w (take i xs)
  unfolding ones count_below sum_below
  whole-segments xs zero = rw (zero-mul w)
  whole-segments xs (suc i) = rw (suc-mul i w) (omega (arith, in-segment xs i w (omega arith), whole-segments xs i, ones-take-suc w xs i))

  -- the set rows of the first i segments, and of the first j bits of the next
  pub before-segment : (xs : List ℕ) (i j : ℕ) → j ≤ w → count_below (i * w + j) (has_row w xs) ≡ ones w (take i xs) + count_below j (is_set (get_or xs i 0))
  before-segment xs i j h = omega (arith, in-segment xs i j h, whole-segments xs i)

  pub ones-count : (xs : List ℕ) → count_below (length xs * w) (has_row w xs) ≡ ones w xs
  ones-count xs = whole-segments xs (length xs) ∙ ap (ones w) (take-length xs)

  -- ---- segments behind others, and the nth set bit of them as a row

  has_left : (xs ys : List ℕ) (r : ℕ) → r < length xs * w → has_row w (xs ++ ys) r ≡ has_row w xs r
  unfolding has_row
  has_left xs ys r h = rw (get_or-append xs ys 0 (r / w) ((div-lt_iff_lt-mul pos).1 h))

  has_right : (xs ys : List ℕ) (r : ℕ) → has_row w (xs ++ ys) (length xs * w + r) ≡ has_row w ys r
  has_right xs ys r =
      let l : r % w < w = mod-lt r pos in
      let e : length xs * w + r ≡ (length xs + r / w) * w + r % w = rw (add-mul (length xs) (r / w) w) (omega (arith, div-add-mod' r w)) in
      rw (e, has-at w pos (xs ++ ys) (length xs + r / w) (r % w) l, get_or-append-add xs ys (r / w) 0)
      (sym (has-at w pos ys (r / w) (r % w) l) ∙ ap (has_row w ys) (div-add-mod' r w))

  count_left : (xs ys : List ℕ) (r : ℕ) → r ≤ length xs * w → count_below r (has_row w (xs ++ ys)) ≡ count_below r (has_row w xs)
  count_left xs ys r h = count-ext r (has_row w (xs ++ ys)) (has_row w xs) (λ k g. has_left xs ys k (omega arith))

  pub nth_left : (xs ys : List ℕ) (n r : ℕ) → IsNth (length xs * w) (has_row w xs) n r → IsNth (length (xs ++ ys) * w) (has_row w (xs ++ ys)) n r
  nth_left xs ys n r a =
      let l : r < length xs * w = a.below in
      record {
        below = rw (length-append xs ys, add-mul (length xs) (length ys) w) (omega arith);
        set = has_left xs ys r l ∙ a.set;
        before = count_left xs ys r (omega arith) ∙ a.before;
      }

  pub nth_right : (xs ys : List ℕ) (n r : ℕ) → IsNth (length ys * w) (has_row w ys) n r
      → IsNth (length (xs ++ ys) * w) (has_row w (xs ++ ys)) (ones w xs + n) (length xs * w + r)
  nth_right xs ys n r a =
      record {
        below = rw (length-append xs ys, add-mul (length xs) (length ys) w) (omega (arith, a.below));
        set = has_right xs ys r ∙ a.set;
        before =
            omega (
              arith,
              count_add (length xs * w) r (has_row w (xs ++ ys)),
              count_left xs ys (length xs * w) (omega arith),
              ones-count xs,
              count-ext r (λ k. has_row w (xs ++ ys) (length xs * w + k)) (has_row w ys) (λ k g. has_right xs ys k),
              a.before,
            );
      }

  -- in the m segments from i on
  pub nth-part : (xs : List ℕ) (i m n r : ℕ) → i ≤ length xs
      → IsNth (length (take m (drop i xs)) * w) (has_row w (take m (drop i xs))) n r
      → IsNth (length xs * w) (has_row w xs) (ones w (take i xs) + n) (i * w + r)
  nth-part xs i m n r h a =
      let rest : IsNth (length (drop i xs) * w) (has_row w (drop i xs)) n r =
      rw (take-append-drop m (drop i xs)) at (nth_left (take m (drop i xs)) (drop m (drop i xs)) n r a) in
      rw (take-append-drop i xs, length-take-le i xs h) at (nth_right (take i xs) (drop i xs) n r rest)

  -- in segment i
  pub nth-word : (xs : List ℕ) (i n j : ℕ) → i < length xs → IsNth w (is_set (get_or xs i 0)) n j → IsNth (length xs * w) (has_row w xs) (ones w (take i xs) + n) (i * w + j)
  unfolding is_set bit_at
  nth-word xs i n j h a =
      record {
        below = omega (arith, mul-le-mul_right w h, suc-mul i w, a.below);
        set = has-at w pos xs i j a.below ∙ a.set;
        before = omega (arith, before-segment xs i j (omega (arith, a.below)), a.before);
      }

  -- in a run of ones
  full_at : (c r : ℕ) → r < c * w → has_row w (replicate c (2 ^ w - 1)) r ≡ true
  unfolding has_row
  full_at c r h = rw (get_or-replicate c (r / w) (2 ^ w - 1) 0 ((div-lt_iff_lt-mul pos).1 h)) (full-set w (r % w) (mod-lt r pos))

  nth-full : (c n : ℕ) → n < c * w → IsNth (length (replicate c (2 ^ w - 1)) * w) (has_row w (replicate c (2 ^ w - 1))) n n
  nth-full c n h =
      record {
        below = rw (length-replicate c (2 ^ w - 1)) h;
        set = full_at c n h;
        before = count-all n (has_row w (replicate c (2 ^ w - 1))) (λ r g. full_at c r (omega arith));
      }

  -- in a clean run
  pub nth-run : (c v n : ℕ) → v < 2 → n < ones w (replicate c (fill w v))
      → IsNth (length (replicate c (fill w v)) * w) (has_row w (replicate c (fill w v))) n n
  unfolding fill all_set
  nth-run c zero n h g = absurd (omega (arith, rw (ones-replicate, fill-count) at g))
  nth-run c (suc zero) n h g = rw (one-mul (2 ^ w - 1)) (nth-full c n (rw (ones-replicate, fill-count, one-mul w) at g))
  nth-run c (suc (suc v)) n h g = absurd (omega arith)

  -- R rows in segments of which the last may have pad bits set
  module _ (R : ℕ) (xs : List ℕ) (count : length xs ≡ segment_count w R) where
    pub count-rows : ones w xs ≡ count_below R (has_row w xs) + count_below (length xs * w - R) (λ r. has_row w xs (R + r))
    count-rows =
        let e : R + (length xs * w - R) ≡ length xs * w = let l : R ≤ length xs * w = rw count (rows_fit w pos R) in omega arith in
        sym (ones-count xs) ∙ ap (λ (n : ℕ). count_below n (has_row w xs)) (sym e) ∙ count_add R (length xs * w - R) (has_row w xs)

  -- the nth set bit, if it is one of R rows, is the nth set row; if it is not, there are not so many
  pub nth-row : (R : ℕ) (xs : List ℕ) (n r : ℕ) → IsNth (length xs * w) (has_row w xs) n r → r < R → IsNth R (has_row w xs) n r
  nth-row R xs n r a h = record { below = h; set = a.set; before = a.before }

  pub nth-over : (R : ℕ) (xs : List ℕ) (n r : ℕ) → IsNth (length xs * w) (has_row w xs) n r → R ≤ r → count_below R (has_row w xs) ≤ n
  nth-over R xs n r a h =
      let e : R + (r - R) ≡ r = omega arith in
      omega (arith, ap (λ (k : ℕ). count_below k (has_row w xs)) e, count_add R (r - R) (has_row w xs), a.before)
