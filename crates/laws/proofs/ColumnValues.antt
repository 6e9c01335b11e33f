-- The slices of a column of values give the values back.
-- Assumes nothing.
use Prim.Native.Nat.{ℕ, zero, suc, ◌+◌, ◌*◌, ◌/◌, ◌%◌, ◌^◌, ◌<◌}
use mathlib.Core.Bool.{Bool, true}
use mathlib.Core.Path.{◌≡◌, refl, sym, ap, ap₂, ◌∙◌}
use mathlib.Core.List.{List, [], ◌∷◌}
use lib.ListN.{length, get_or}
use lib.Pow.{pow_pos, shr-shr}
use lib.Arith.{mod-mul}
use native.Mathlib.Nat.{mod-lt, mod-eq_of_lt, div-one}
use native.Mathlib.Omega.{arith}
use Rattle.meaning.specs.Rows.{bit, none}
use Rattle.meaning.specs.Segment.{bit_at, is_set}
use Rattle.column_meaning.specs.Column.{value_of, slice, slices_from, column_of}
use Rattle.laws.proofs.RowWords.{bit_le, bit-eqb}

-- a value has no more digits than there are slices
pub value-lt : (ps : List (ℕ → Bool)) (r : ℕ) → value_of ps r < 2 ^ length ps
unfolding value_of
value-lt [] r = omega arith
value-lt (p ∷ ps) r =
    let g : bit (p r) + 2 * value_of ps r < 2 ^ suc (length ps) = omega (arith, bit_le (p r), value-lt ps r) in g

-- it depends on nothing but whether each slice has the row
pub value-ext : (ps qs : List (ℕ → Bool)) (r : ℕ) → length ps ≡ length qs
    → ((i : ℕ) → i < length ps → get_or ps i none r ≡ get_or qs i none r) → value_of ps r ≡ value_of qs r
unfolding value_of
value-ext [] [] r n h = refl
value-ext [] (q ∷ qs) r n h = absurd (omega arith)
value-ext (p ∷ ps) [] r n h = absurd (omega arith)
value-ext (p ∷ ps) (q ∷ qs) r n h =
    ap₂ (λ (b : Bool) (v : ℕ). bit b + 2 * v) (h 0 (omega arith))
    (value-ext ps qs r (omega arith) (λ i l. h (suc i) (omega arith)))

mod-one-is : (x : ℕ) → x % 1 ≡ 0
mod-one-is x = omega arith

module _ (exists : ℕ → Bool) (v : ℕ → ℕ) where
  -- as many as are asked for
  pub slices-length : (i n : ℕ) → length (slices_from exists v i n) ≡ n
  unfolding slices_from
  slices-length i zero = refl
  slices-length i (suc n) = ap suc (slices-length (suc i) n)

  -- and one bitmap more
  pub column-many : (n : ℕ) → length (column_of exists v n) ≡ suc n
  unfolding column_of
  column-many n = ap suc (slices-length 0 n)

  -- slice j of those from slice i on
  pub slices-at : (i n j : ℕ) → j < n → get_or (slices_from exists v i n) j none ≡ slice exists v (i + j)
  unfolding slices_from
  slices-at i zero j h = absurd (omega arith)
  slices-at i (suc n) zero h = ap (slice exists v) (omega arith)
  slices-at i (suc n) (suc j) h = slices-at (suc i) n j (omega arith) ∙ ap (slice exists v) (omega arith)

  -- of a row that exists
  module _ (r : ℕ) (e : exists r ≡ true) where
    slice-bit : (i : ℕ) → bit (slice exists v i r) ≡ v r / 2 ^ i % 2
    unfolding slice is_set bit_at
    slice-bit i = rw e (bit-eqb (v r / 2 ^ i % 2) (mod-lt (v r / 2 ^ i) (omega arith)))

    halved : (i : ℕ) → v r / 2 ^ suc i ≡ v r / 2 ^ i / 2
    halved i = sym (shr-shr (v r) i 1 ∙ ap (λ (k : ℕ). v r / 2 ^ k) (omega arith))

    -- n slices from slice i on are the digits i to i + n - 1
    pub slices-value : (i n : ℕ) → value_of (slices_from exists v i n) r ≡ v r / 2 ^ i % 2 ^ n
    unfolding slices_from value_of
    slices-value i zero = sym (mod-one-is (v r / 2 ^ i))
    slices-value i (suc n) =
        let x = v r / 2 ^ i in
        let m : x % (2 ^ n * 2) ≡ (x / 2 % 2 ^ n) * 2 + x % 2 = mod-mul x (pow_pos n) (omega arith) in
        let s : 2 ^ suc n ≡ 2 ^ n * 2 = omega arith in
        rw (slice-bit i, slices-value (suc i) n, halved i, s) (omega arith)

    -- so n slices are the n lowest digits
    pub column-digits : (n : ℕ) → value_of (slices_from exists v 0 n) r ≡ v r % 2 ^ n
    column-digits n = slices-value 0 n ∙ rw (div-one (v r))

    -- and the whole of a value of n digits
    pub column-value : (n : ℕ) → v r < 2 ^ n → value_of (slices_from exists v 0 n) r ≡ v r
    column-value n h = column-digits n ∙ mod-eq_of_lt h
