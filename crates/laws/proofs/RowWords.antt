-- Segments of w bits are decided by their rows, for any width w.
-- Assumes nothing.
use Prim.Native.Nat.{ℕ, zero, suc, ◌+◌, ◌-◌, ◌*◌, ◌/◌, ◌%◌, ◌^◌, ◌≤◌, ◌<◌}
use mathlib.Core.Bool.{Bool, true, false, ◌&&◌}
use mathlib.Core.Path.{◌≡◌, refl, sym, ap, ap₂, ◌∙◌}
use mathlib.Core.List.{List, [], ◌∷◌}
use lib.Dec.{eqb, ltb}
use lib.ListN.{length, get_or, get_or-eq_default}
use lib.Pow.{pow_pos, pow_mono}
use lib.Arith.{digits_div, digits_mod}
use lib.Seq.{ext_get_or}
use native.Mathlib.Nat.{div-div-eq-div-mul, div-one, add-div_right, div-add-mod', div-eq_of_lt, mod-lt, le-div_iff_mul-le}
use native.Mathlib.Nat.{mul-le-mul_right, suc-mul, zero-div}
use native.Mathlib.Numerals.{add-one}
use native.Mathlib.Decide.{dec_le}
use native.Mathlib.Omega.{arith}
use borrow.Author.Tests.{lt-ltb, le-ltb}
use Rattle.meaning.specs.Limits.{most_rows, most_segments}
use Rattle.meaning.specs.Rows.{bit}
use Rattle.meaning.specs.Segment.{segment_count, last_rows, last_limit, last_of, is_set, bit_at, has_row, word_of, tabulate, from_rows}

-- ---- bits of a number

pub bit_le : (b : Bool) → bit b ≤ 1
unfolding bit
bit_le true = omega arith
bit_le false = omega arith

pub eqb-bit : (b : Bool) → eqb (bit b) 1 ≡ b
unfolding bit
eqb-bit true = refl
eqb-bit false = refl

half_pow : (x j : ℕ) → x / 2 ^ suc j ≡ x / 2 / 2 ^ j
half_pow x j = ap (λ (k : ℕ). x / k) e ∙ sym (div-div-eq-div-mul x 2 (2 ^ j))
  where
    e : 2 ^ suc j ≡ 2 * 2 ^ j
    e = omega arith

pub word-ext : (n : ℕ) (p q : ℕ → Bool) → ((j : ℕ) → j < n → p j ≡ q j) → word_of n p ≡ word_of n q
unfolding word_of
word-ext zero p q h = refl
word-ext (suc n) p q h =
    ap₂ (λ (b : Bool) (x : ℕ). bit b + 2 * x) (h 0 (omega arith)) (word-ext n (λ j. p (suc j)) (λ j. q (suc j)) (λ j g. h (suc j) (omega arith)))

-- bit j of n bits
pub word_at : (n : ℕ) (q : ℕ → Bool) (j : ℕ) → j < n → word_of n q / 2 ^ j % 2 ≡ bit (q j)
unfolding word_of
word_at zero q j h = absurd (omega arith)
word_at (suc n) q zero h = rw (div-one (bit (q 0) + 2 * word_of n (λ j. q (suc j)))) (omega (arith, bit_le (q 0)))
word_at (suc n) q (suc j) h =
    let e : (bit (q 0) + 2 * word_of n (λ j. q (suc j))) / 2 ≡ word_of n (λ j. q (suc j)) = omega (arith, bit_le (q 0)) in
    rw (half_pow (bit (q 0) + 2 * word_of n (λ j. q (suc j))) j, e) (word_at n (λ j. q (suc j)) j (omega arith))

-- n bits of which none is set from k on
pub word-short : (n k : ℕ) (q : ℕ → Bool) → ((j : ℕ) → k ≤ j → q j ≡ false) → word_of n q < 2 ^ k
unfolding word_of
word-short zero k q h = pow_pos k
word-short (suc n) zero q h = rw (h 0 (omega arith)) (unfold bit in omega (arith, word-short n 0 (λ j. q (suc j)) (λ j g. h (suc j) (omega arith))))
word-short (suc n) (suc k) q h = omega (arith, bit_le (q 0), word-short n k (λ j. q (suc j)) (λ j g. h (suc j) (omega arith)))

pub word_lt : (n : ℕ) (q : ℕ → Bool) → word_of n q < 2 ^ n
unfolding word_of
word_lt zero q = omega arith
word_lt (suc n) q = omega (arith, bit_le (q 0), word_lt n (λ j. q (suc j)))

pub bit-eqb : (r : ℕ) → r < 2 → bit (eqb r 1) ≡ r
unfolding bit
bit-eqb zero h = refl
bit-eqb (suc zero) h = refl
bit-eqb (suc (suc r)) h = absurd (omega arith)

-- a number of n bits is made of them
pub word-self : (n x : ℕ) → x < 2 ^ n → word_of n (λ j. eqb (x / 2 ^ j % 2) 1) ≡ x
unfolding word_of
word-self zero x h = omega arith
word-self (suc n) x h =
    let e : word_of n (λ j. eqb (x / 2 ^ suc j % 2) 1) ≡ x / 2 =
    word-ext n (λ j. eqb (x / 2 ^ suc j % 2) 1) (λ j. eqb (x / 2 / 2 ^ j % 2) 1) (λ j g. ap (λ (k : ℕ). eqb (k % 2) 1) (half_pow x j))
    ∙ word-self n (x / 2) (omega arith) in
    omega (arith, e, bit-eqb (x / 1 % 2) (omega arith))

-- numbers of n bits are equal by their bits
pub word-by-bits : (n x y : ℕ) → x < 2 ^ n → y < 2 ^ n → ((j : ℕ) → j < n → is_set x j ≡ is_set y j) → x ≡ y
unfolding is_set bit_at
word-by-bits n x y hx hy h = sym (word-self n x hx) ∙ word-ext n (is_set x) (is_set y) h ∙ word-self n y hy

-- ---- lists

pub length-tabulate : (n : ℕ) (f : ℕ → ℕ) → length (tabulate n f) ≡ n
unfolding tabulate
length-tabulate zero f = refl
length-tabulate (suc n) f = ap suc (length-tabulate n (λ i. f (suc i)))

pub get_d_tabulate : (n : ℕ) (f : ℕ → ℕ) (i : ℕ) → i < n → get_or (tabulate n f) i 0 ≡ f i
unfolding tabulate
get_d_tabulate zero f i h = absurd (omega arith)
get_d_tabulate (suc n) f zero h = refl
get_d_tabulate (suc n) f (suc i) h = get_d_tabulate n (λ i. f (suc i)) i (omega arith)

pub tabulate-below : (m : ℕ) → 0 < m → (n : ℕ) (f : ℕ → ℕ) → ((i : ℕ) → f i < m) → (i : ℕ) → get_or (tabulate n f) i 0 < m
unfolding tabulate
tabulate-below m p zero f h i = p
tabulate-below m p (suc n) f h zero = h 0
tabulate-below m p (suc n) f h (suc i) = tabulate-below m p n (λ i. f (suc i)) (λ i. h (suc i)) i

pub last-get_d : (xs : List ℕ) (n : ℕ) → length xs ≡ suc n → last_of xs ≡ get_or xs n 0
unfolding last_of
last-get_d [] n h = absurd (omega arith)
last-get_d (x ∷ []) zero h = refl
last-get_d (x ∷ []) (suc n) h = absurd (omega arith)
last-get_d (x ∷ y ∷ ys) zero h = absurd (omega arith)
last-get_d (x ∷ y ∷ ys) (suc n) h = last-get_d (y ∷ ys) n (omega arith)

-- ---- rows and segments

pub segments-few : (R : ℕ) → R ≤ most_rows → segment_count 32 R ≤ most_segments
unfolding segment_count
segments-few R h = omega arith

module _ (w : ℕ) (pos : 0 < w) where
  pub count-zero : segment_count w 0 ≡ 0
  unfolding segment_count
  count-zero = div-eq_of_lt (omega arith)

  pub count-suc : (r : ℕ) → segment_count w (suc r) ≡ suc (r / w)
  unfolding segment_count
  count-suc r =
      let e : suc r + (w - 1) ≡ r + w = omega arith in
      ap (λ (n : ℕ). n / w) e ∙ add-div_right r pos ∙ omega arith

  -- a bit of a segment that is no row is a pad bit of the last
  past : (r i j : ℕ) → i ≤ r / w → j < w → r < i * w + j → (i ≡ r / w) × (r % w < j)
  past r i j hi hj h = (e, h-tail)
    where
      e : i ≡ r / w
      e = elim (dec_le (suc i) (r / w)) [ yes g ↦ absurd (omega (arith, mul-le-mul_right w g, div-add-mod' r w)) | no g ↦ omega arith ]

      h-tail : r % w < j
      h-tail = let k : r < r / w * w + j = rw (← e) h in omega (arith, div-add-mod' r w)

  limit-suc : (r : ℕ) → last_limit w (suc r) ≡ 2 ^ suc (r % w)
  unfolding last_limit last_rows
  limit-suc r = let e : suc r - 1 ≡ r = omega arith in rw (e, add-one)

  pub has-at : (xs : List ℕ) (i j : ℕ) → j < w → has_row w xs (i * w + j) ≡ eqb (get_or xs i 0 / 2 ^ j % 2) 1
  unfolding has_row
  has-at xs i j k = rw (digits_div i k, digits_mod i k)

  -- rows are no more than the bits of their segments
  pub rows_fit : (R : ℕ) → R ≤ segment_count w R * w
  rows_fit zero = omega arith
  rows_fit (suc r) = rw (count-suc r, suc-mul (r / w) w) (omega (arith, div-add-mod' r w, mod-lt r pos))

  -- each segment begins at a row
  pub begins : (R i : ℕ) → i < segment_count w R → i * w < R
  begins zero i h = absurd (omega (arith, count-zero))
  begins (suc r) i h = let l : i * w ≤ r = (le-div_iff_mul-le pos).0 (omega (arith, count-suc r)) in omega arith

  -- segments with no pad bit set have no bit past the last row
  pub pad-clear : (rows : ℕ) (xs : List ℕ) → length xs ≡ segment_count w rows → last_of xs < last_limit w rows → (r : ℕ) → rows ≤ r → has_row w xs r ≡ false
  unfolding has_row
  pad-clear rows xs n last r h = elim (dec_le (length xs) (r / w)) [ yes g ↦ rw (get_or-eq_default xs 0 g, zero-div (2 ^ (r % w))) | no g ↦ go rows n last h (omega arith) ]
    where
      go : (rows : ℕ) → length xs ≡ segment_count w rows → last_of xs < last_limit w rows → rows ≤ r → r / w < length xs → eqb (get_or xs (r / w) 0 / 2 ^ (r % w) % 2) 1 ≡ false
      go zero n last h g = absurd (omega (arith, count-zero))
      go (suc s) n last h g =
          let q = past s (r / w) (r % w) (omega (arith, count-suc s)) (mod-lt r pos) (omega (arith, div-add-mod' r w)) in
          let e : get_or xs (r / w) 0 ≡ last_of xs = rw q.0 (sym (last-get_d xs (s / w) (n ∙ count-suc s))) in
          let z : get_or xs (r / w) 0 / 2 ^ (r % w) ≡ 0 = div-eq_of_lt (omega (arith, limit-suc s, pow_mono q.1)) in
          rw z

  -- the word of segment i of the rows p
  abbrev cell : ℕ → (ℕ → Bool) → ℕ → ℕ
  cell rows p i = word_of w (λ j. ltb (i * w + j) rows && p (i * w + j))

  -- Segments of w bits with no pad bit set are those of their rows
  pub rows-decide : (rows : ℕ) (p : ℕ → Bool) (xs : List ℕ) → length xs ≡ segment_count w rows → ((i : ℕ) → get_or xs i 0 < 2 ^ w) → last_of xs < last_limit w rows
      → ((r : ℕ) → r < rows → has_row w xs r ≡ p r) → xs ≡ from_rows w rows p
  unfolding from_rows
  rows-decide zero p xs n fit last h =
      ext_get_or 0 xs (tabulate (segment_count w 0) (cell 0 p)) (n ∙ sym (length-tabulate (segment_count w 0) (cell 0 p))) (λ i g. absurd (omega (arith, count-zero)))
  rows-decide (suc r) p xs n fit last h =
      ext_get_or 0 xs (tabulate (segment_count w (suc r)) (cell (suc r) p)) (n ∙ sym (length-tabulate (segment_count w (suc r)) (cell (suc r) p)))
      (λ i g. sym (word-self w (get_or xs i 0) (fit i)) ∙ word-ext w (λ j. eqb (get_or xs i 0 / 2 ^ j % 2) 1) (λ j. ltb (i * w + j) (suc r) && p (i * w + j)) (each i (omega (arith, count-suc r)))
      ∙ sym (get_d_tabulate (segment_count w (suc r)) (cell (suc r) p) i (omega arith)))
    where
      each : (i : ℕ) → i ≤ r / w → (j : ℕ) → j < w → eqb (get_or xs i 0 / 2 ^ j % 2) 1 ≡ ltb (i * w + j) (suc r) && p (i * w + j)
      each i g j k = elim (dec_le (i * w + j) r) [ yes q ↦ sym (has-at xs i j k) ∙ h (i * w + j) (omega arith) ∙ rw (lt-ltb (i * w + j) (suc r) (omega arith)) | no q ↦ sym (has-at xs i j k) ∙ pad-clear (suc r) xs n last (i * w + j) (omega arith) ∙ rw (le-ltb (i * w + j) (suc r) (omega arith)) ]

  -- and those of a set of rows have these rows, no other bits, and their number
  pub from-length : (rows : ℕ) (p : ℕ → Bool) → length (from_rows w rows p) ≡ segment_count w rows
  unfolding from_rows
  from-length rows p = length-tabulate (segment_count w rows) (cell rows p)

  pub from-bit : (rows : ℕ) (p : ℕ → Bool) (i j : ℕ) → i < segment_count w rows → j < w
      → is_set (get_or (from_rows w rows p) i 0) j ≡ ltb (i * w + j) rows && p (i * w + j)
  unfolding from_rows is_set bit_at
  from-bit rows p i j h k =
      rw (get_d_tabulate (segment_count w rows) (cell rows p) i h, word_at w (λ j. ltb (i * w + j) rows && p (i * w + j)) j k)
      (eqb-bit (ltb (i * w + j) rows && p (i * w + j)))

  pub from-has : (rows : ℕ) (p : ℕ → Bool) (r : ℕ) → r < rows → has_row w (from_rows w rows p) r ≡ p r
  unfolding has_row
  from-has zero p r h = absurd (omega arith)
  from-has (suc n) p r h =
      from-bit (suc n) p (r / w) (r % w) (omega (arith, count-suc n, div_mono)) (mod-lt r pos)
      ∙ rw (div-add-mod' r w, lt-ltb r (suc n) h)
    where
      div_mono : r / w ≤ n / w
      div_mono = (le-div_iff_mul-le pos).1 (omega (arith, div-add-mod' r w))

  pub from_last : (rows : ℕ) (p : ℕ → Bool) → last_of (from_rows w rows p) < last_limit w rows
  unfolding from_rows
  from_last zero p = rw count-zero (unfold tabulate last_of last_limit in pow_pos (last_rows w 0))
  from_last (suc r) p =
      let e : last_of (tabulate (segment_count w (suc r)) (cell (suc r) p)) ≡ cell (suc r) p (r / w) =
      last-get_d (tabulate (segment_count w (suc r)) (cell (suc r) p)) (r / w) (length-tabulate (segment_count w (suc r)) (cell (suc r) p) ∙ count-suc r)
      ∙ get_d_tabulate (segment_count w (suc r)) (cell (suc r) p) (r / w) (omega (arith, count-suc r)) in
      rw (e, limit-suc r) (word-short w (suc (r % w)) (λ j. ltb (r / w * w + j) (suc r) && p (r / w * w + j)) (λ j g. rw (le-ltb (r / w * w + j) (suc r) (omega (arith, div-add-mod' r w)))))

  pub from-below : (rows : ℕ) (p : ℕ → Bool) (i : ℕ) → get_or (from_rows w rows p) i 0 < 2 ^ w
  unfolding from_rows
  from-below rows p i = tabulate-below (2 ^ w) (pow_pos w) (segment_count w rows) (cell rows p) (λ i. word_lt w (λ j. ltb (i * w + j) rows && p (i * w + j))) i
