-- Differences of numbers as integers, and signed values, which are two's complement.
-- Assumes nothing.
use Prim.Native.Nat.{ℕ, zero, suc, ◌+◌, ◌-◌, ◌*◌, ◌/◌, ◌%◌, ◌^◌, ◌≤◌, ◌<◌}
use mathlib.Core.Bool.{Bool, true, false, cond, not}
use mathlib.Core.Path.{◌≡◌, refl, sym, ap, ◌∙◌, subst}
use mathlib.Core.List.{List, [], ◌∷◌}
use lib.Dec.{eqb}
use lib.ListN.{length}
use lib.Pow.{shr-shr, high, low}
use lib.IntN.{ℤ, pos, negsuc, neg_ℤ, nat_abs, ◌+ℤ◌, ◌-ℤ◌, ◌*ℤ◌}
use lib.Signed.{mag, non_neg}
use native.Mathlib.Nat.{mod-eq_of_lt, div-eq_of_lt, div-one}
use native.Mathlib.Decide.{dec_le}
use native.Mathlib.Omega.{arith}
use borrow.Author.Tests.{lt-ltb, le-ltb}
use Rattle.meaning.specs.Rows.{bit}
use Rattle.meaning.specs.Segment.{bit_at, is_set}
use Rattle.column_meaning.specs.Column.{value_of, signed_of}
use Rattle.laws.specs.ColumnLaws.{sign_of, or_zero}
use Rattle.laws.proofs.RowWords.{bit_le}
use Rattle.laws.proofs.ColumnValues.{value-lt}

-- ---- differences of numbers

-- a difference that is not negative
pub minus_pos : (x y : ℕ) → y ≤ x → pos x -ℤ pos y ≡ pos (x - y)
minus_pos x zero h = ap pos (omega arith)
minus_pos x (suc y) h = ap (λ (t : Bool). cond t (negsuc (suc y - suc x)) (pos (x - suc y))) (le-ltb x (suc y) h)

-- one that is
pub minus-neg : (x y : ℕ) → x < y → pos x -ℤ pos y ≡ negsuc (y - suc x)
minus-neg x zero h = absurd (omega arith)
minus-neg x (suc y) h = ap (λ (t : Bool). cond t (negsuc (suc y - suc x)) (pos (x - suc y))) (lt-ltb x (suc y) h)

-- both numbers may be raised alike
minus-raised : (x y c : ℕ) → pos (x + c) -ℤ pos (y + c) ≡ pos x -ℤ pos y
minus-raised x y c = elim (dec_le y x) [
  | yes l ↦ minus_pos (x + c) (y + c) (omega arith) ∙ ap pos (omega arith) ∙ sym (minus_pos x y l)
  | no l ↦ minus-neg (x + c) (y + c) (omega arith) ∙ ap negsuc (omega arith) ∙ sym (minus-neg x y (omega arith))
]

-- twice a difference, and d more
twice-minus : (d a b : ℕ) → pos d +ℤ pos 2 *ℤ (pos a -ℤ pos b) ≡ pos (d + 2 * a) -ℤ pos (2 * b)
twice-minus d a b = elim (dec_le b a) [
  | yes l ↦
      ap (λ (z : ℤ). pos d +ℤ pos 2 *ℤ z) (minus_pos a b l)
      ∙ ap pos (omega arith)
      ∙ sym (minus_pos (d + 2 * a) (2 * b) (omega arith))
  | no l ↦
      let m = 2 * suc (b - suc a) in
      let raised : m + 2 * a ≡ 2 * b = omega arith in
      ap (λ (z : ℤ). pos d +ℤ pos 2 *ℤ z) (minus-neg a b (omega arith))
      ∙ sym (minus-raised d m (2 * a))
      ∙ ap (λ (k : ℕ). pos (d + 2 * a) -ℤ pos k) raised
]

-- of two numbers below N it is above - N and below N
pub minus-below : (N x y : ℕ) → x < N → y < N → nat_abs (pos x -ℤ pos y) < N
minus-below N x y hx hy = elim (dec_le y x) [
  | yes l ↦ subst (λ (z : ℤ). nat_abs z < N) (sym (minus_pos x y l)) (omega arith)
  | no l ↦ subst (λ (z : ℤ). nat_abs z < N) (sym (minus-neg x y (omega arith))) (omega arith)
]

-- or 0 where it is negative, it is the difference of ℕ
pub minus-or-zero : (x y : ℕ) → x - y ≡ or_zero (pos x -ℤ pos y)
unfolding or_zero
minus-or-zero x y = elim (dec_le y x) [
  | yes l ↦ sym (ap or_zero (minus_pos x y l))
  | no l ↦ let z : x - y ≡ 0 = omega arith in z ∙ sym (ap or_zero (minus-neg x y (omega arith)))
]

-- ---- signed values

-- of one slice
less_one : (b : Bool) → neg_ℤ (pos (bit b)) ≡ pos (bit b + 2 * 0) -ℤ pos (bit b * 2 ^ 1)
unfolding bit
less_one true = refl
less_one false = refl

-- a sign's weight, of one slice more
weight-next : (s n : ℕ) → 2 * (s * 2 ^ n) ≡ s * 2 ^ suc n
weight-next s n = let t : 2 ^ suc n ≡ 2 * 2 ^ n = omega arith in rw t (omega arith)

-- the digit above those of two numbers tells in their two's complement which is the smaller
pub sign-digit : (n x y : ℕ) → x < 2 ^ n → y < 2 ^ n → is_set (x + 2 ^ suc n - y) n ≡ not (non_neg (pos x -ℤ pos y))
unfolding is_set bit_at
sign-digit n x y hx hy = elim (dec_le y x) [
  | yes l ↦
      let raised : x + 2 ^ suc n - y ≡ 2 * 2 ^ n + (x - y) = omega arith in
      ap (λ (k : ℕ). eqb (k / 2 ^ n % 2) 1) raised
      ∙ ap (λ (k : ℕ). eqb (k % 2) 1) (high 2 n {lo = x - y} (omega arith))
      ∙ sym (ap (λ (z : ℤ). not (non_neg z)) (minus_pos x y l))
  | no l ↦
      let raised : x + 2 ^ suc n - y ≡ 1 * 2 ^ n + (2 ^ n - (y - x)) = omega arith in
      ap (λ (k : ℕ). eqb (k / 2 ^ n % 2) 1) raised
      ∙ ap (λ (k : ℕ). eqb (k % 2) 1) (high 1 n {lo = 2 ^ n - (y - x)} (omega arith))
      ∙ sym (ap (λ (z : ℤ). not (non_neg z)) (minus-neg x y (omega arith)))
]

-- the plain value, less 2 ^ n where the top of the n slices has the row
pub signed-less : (ps : List (ℕ → Bool)) (r : ℕ)
    → signed_of ps r ≡ pos (value_of ps r) -ℤ pos (sign_of ps r * 2 ^ length ps)
unfolding signed_of value_of sign_of
signed-less [] r = refl
signed-less (p ∷ []) r = less_one (p r)
signed-less (p ∷ q ∷ ps) r =
    let d = bit (p r) in
    let v = value_of (q ∷ ps) r in
    let s = sign_of (q ∷ ps) r * 2 ^ length (q ∷ ps) in
    ap (λ (z : ℤ). pos d +ℤ pos 2 *ℤ z) (signed-less (q ∷ ps) r)
    ∙ twice-minus d v s
    ∙ ap (λ (m : ℕ). pos (d + 2 * v) -ℤ pos m) (weight-next (sign_of (q ∷ ps) r) (length (q ∷ ps)))

-- without the sign it is the plain value
pub signed-plain : (ps : List (ℕ → Bool)) (r : ℕ) → sign_of ps r ≡ 0 → signed_of ps r ≡ pos (value_of ps r)
signed-plain ps r h =
    let v = value_of ps r in
    signed-less ps r
    ∙ ap (λ (s : ℕ). pos v -ℤ pos (s * 2 ^ length ps)) h
    ∙ minus_pos v (0 * 2 ^ length ps) (omega arith)
    ∙ ap pos (omega arith)

-- the sign is the highest digit of the plain value
pub sign-is : (ps : List (ℕ → Bool)) (r n : ℕ) → length ps ≡ suc n → sign_of ps r ≡ value_of ps r / 2 ^ n
unfolding sign_of value_of
sign-is [] r n e = absurd (omega arith)
sign-is (p ∷ []) r zero e = sym (div-one (bit (p r) + 2 * 0) ∙ omega arith)
sign-is (p ∷ []) r (suc n) e = absurd (omega arith)
sign-is (p ∷ q ∷ ps) r zero e = absurd (omega arith)
sign-is (p ∷ q ∷ ps) r (suc n) e =
    let x = bit (p r) + 2 * value_of (q ∷ ps) r in
    let half : x / 2 ^ 1 ≡ value_of (q ∷ ps) r = omega (arith, bit_le (p r)) in
    sign-is (q ∷ ps) r n (omega arith)
    ∙ sym (ap (λ (k : ℕ). x / 2 ^ k) (omega arith) ∙ sym (shr-shr x 1 n) ∙ ap (λ (k : ℕ). k / 2 ^ n) half)

-- of n + 1 slices
module _ (ps : List (ℕ → Bool)) (r n : ℕ) (e : length ps ≡ suc n) where
  -- a plain value of n digits is itself
  pub signed_low : value_of ps r < 2 ^ n → signed_of ps r ≡ pos (value_of ps r)
  signed_low h = signed-plain ps r (sign-is ps r n e ∙ div-eq_of_lt h)

  -- the plain value has n + 1 digits
  value_low : value_of ps r < 2 ^ suc n
  value_low = subst (λ (k : ℕ). value_of ps r < 2 ^ k) e (value-lt ps r)

  -- one of n + 1 is 2 ^ (n + 1) less
  pub signed_high : 2 ^ n ≤ value_of ps r → signed_of ps r ≡ negsuc (2 ^ suc n - suc (value_of ps r))
  signed_high h =
      let v = value_of ps r in
      let split : v ≡ 1 * 2 ^ n + (v - 2 ^ n) = omega arith in
      let over : v - 2 ^ n < 2 ^ n = omega (arith, value_low) in
      let top : sign_of ps r ≡ 1 = sign-is ps r n e ∙ ap (λ (k : ℕ). k / 2 ^ n) split ∙ high 1 n over in
      let weight : sign_of ps r * 2 ^ length ps ≡ 2 ^ suc n = rw (top, e) (omega arith) in
      signed-less ps r
      ∙ ap (λ (m : ℕ). pos v -ℤ pos m) weight
      ∙ minus-neg v (2 ^ suc n) value_low

  -- so it is from - 2 ^ n to 2 ^ n - 1
  pub signed_range : mag (signed_of ps r) < 2 ^ n
  signed_range = elim (dec_le (2 ^ n) (value_of ps r)) [
    | yes l ↦ subst (λ (z : ℤ). mag z < 2 ^ n) (sym (signed_high l)) (omega (arith, value_low))
    | no l ↦ subst (λ (z : ℤ). mag z < 2 ^ n) (sym (signed_low (omega arith))) (omega arith)
  ]

  -- the difference of two numbers of n digits is read back from its n + 1 lowest digits
  pub signed-difference : (x y : ℕ) → x < 2 ^ n → y < 2 ^ n → value_of ps r ≡ (x + 2 ^ suc n - y) % 2 ^ suc n
      → signed_of ps r ≡ pos x -ℤ pos y
  signed-difference x y hx hy d = elim (dec_le y x) [
    | yes l ↦
        let raised : x + 2 ^ suc n - y ≡ 1 * 2 ^ suc n + (x - y) = omega arith in
        let under : x - y < 2 ^ suc n = omega arith in
        let v : value_of ps r ≡ x - y = d ∙ ap (λ (k : ℕ). k % 2 ^ suc n) raised ∙ low 1 (suc n) under in
        signed_low (omega arith) ∙ ap pos v ∙ sym (minus_pos x y l)
    | no l ↦
        let v : value_of ps r ≡ x + 2 ^ suc n - y = d ∙ mod-eq_of_lt (omega arith) in
        signed_high (omega arith) ∙ ap negsuc (omega arith) ∙ sym (minus-neg x y (omega arith))
  ]
