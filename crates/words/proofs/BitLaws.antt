-- The bits of a word, at every width: they determine it, those of `&`, `|`, `^` and `!`, a mask of one bit, the set bits counted.
-- Assumes nothing.
use mathlib.Core.Path.{◌≡◌, refl, sym, ap, ap₂, ◌∙◌}
use mathlib.Core.Bool.{Bool, true, false, not, ◌&&◌, ◌||◌, xor}
use Prim.Native.Nat.{ℕ, zero, suc, ◌+◌, ◌-◌, ◌*◌, ◌/◌, ◌%◌, ◌^◌, ◌<◌, min, max}
use native.Mathlib.Nat.{mod-lt, mod-eq_of_lt, add_comm, one-mul, zero-mul}
use native.Mathlib.Numerals.{one-add, add-one}
use native.Mathlib.Omega.{arith}
use lib.Dec.{lit<, eqb}
use lib.Pow.{pow_pos, shl_exact, mod-pow-add}
use lib.Bits.{bit_and, bit_or, bit_xor, differ, and_shr, or_shr, xor_shr, and_step, or_step, xor_step, and_high, and_mask, xor_add_and}
use lib.Count.{ones, ones_in, ones_cat}
use borrow.Author.Tests.{ne_eqb}
use Rattle.meaning.specs.Rows.{bit, count_below}
use Rattle.meaning.specs.Segment.{bit_at, is_set}
use Rattle.laws.proofs.RowWords.{bit_le, eqb-bit, bit-eqb}
use Rattle.laws.proofs.Counting.{full-set}

-- ---- the bits of a word

pub bit-lt : (x j : ℕ) → bit_at x j < 2
unfolding bit_at
bit-lt x j = mod-lt (x / 2 ^ j) (lit< tt)

-- a bit is the number of whether it is set
pub bit-set : (x j : ℕ) → bit_at x j ≡ bit (is_set x j)
unfolding bit_at is_set
bit-set x j = sym (bit-eqb (bit_at x j) (bit-lt x j))

-- ---- the bits of `&`, `|`, `^` and `!`

-- an operation op on words that does f to the digits, which does g to whether they are set
module _ (op f : ℕ → ℕ → ℕ) (g : Bool → Bool → Bool)
    (shr : (a b k : ℕ) → op a b / 2 ^ k ≡ op (a / 2 ^ k) (b / 2 ^ k))
    (step : (a b : ℕ) → op a b ≡ op (a / 2) (b / 2) * 2 + f (a % 2) (b % 2))
    (table : (p q : Bool) → f (bit p) (bit q) ≡ bit (g p q)) where
  digit : (a b : ℕ) → op a b % 2 ≡ bit (g (eqb (a % 2) 1) (eqb (b % 2) 1))
  digit a b =
      let p : Bool = eqb (a % 2) 1 in
      let q : Bool = eqb (b % 2) 1 in
      let e : f (a % 2) (b % 2) ≡ bit (g p q) = ap₂ f (sym (bit-eqb (a % 2) (mod-lt a (lit< tt)))) (sym (bit-eqb (b % 2) (mod-lt b (lit< tt)))) ∙ table p q in
      omega (arith, step a b, bit_le (g p q))

  op_set : (a b j : ℕ) → is_set (op a b) j ≡ g (is_set a j) (is_set b j)
  unfolding is_set
  op_set a b j =
      ap (λ (x : ℕ). eqb (x % 2) 1) (shr a b j) ∙ ap (λ (x : ℕ). eqb x 1) (digit (a / 2 ^ j) (b / 2 ^ j))
      ∙ eqb-bit (g (is_set a j) (is_set b j))

pub and-table : (p q : Bool) → min (bit p) (bit q) ≡ bit (p && q)
unfolding bit
and-table true true = refl
and-table true false = refl
and-table false true = refl
and-table false false = refl

pub or-table : (p q : Bool) → max (bit p) (bit q) ≡ bit (p || q)
unfolding bit
or-table true true = refl
or-table true false = refl
or-table false true = refl
or-table false false = refl

xor-table : (p q : Bool) → differ (bit p) (bit q) ≡ bit (xor p q)
unfolding bit xor
xor-table true true = refl
xor-table true false = refl
xor-table false true = refl
xor-table false false = refl

pub and_set : (a b j : ℕ) → is_set (bit_and a b) j ≡ is_set a j && is_set b j
and_set = op_set bit_and min ◌&&◌ and_shr and_step and-table

pub or_set : (a b j : ℕ) → is_set (bit_or a b) j ≡ is_set a j || is_set b j
or_set = op_set bit_or max ◌||◌ or_shr or_step or-table

pub xor-set : (a b j : ℕ) → is_set (bit_xor a b) j ≡ xor (is_set a j) (is_set b j)
xor-set = op_set bit_xor differ xor xor_shr xor_step xor-table

-- `!` is `^` with all ones
not-xor : (w x : ℕ) → x < 2 ^ w → (2 ^ w - 1) - x ≡ bit_xor x (2 ^ w - 1)
not-xor w x h =
    let e : bit_and x (2 ^ w - 1) ≡ x = and_mask x w ∙ mod-eq_of_lt h in
    omega (arith, xor_add_and x (2 ^ w - 1))

xor-true : (p : Bool) → xor p true ≡ not p
unfolding xor
xor-true true = refl
xor-true false = refl

-- `!` of a word of w bits
pub not_set : (w x j : ℕ) → x < 2 ^ w → j < w → is_set ((2 ^ w - 1) - x) j ≡ not (is_set x j)
not_set w x j h l =
    ap (λ (y : ℕ). is_set y j) (not-xor w x h) ∙ xor-set x (2 ^ w - 1) j ∙ ap (xor (is_set x j)) (full-set w j l) ∙ xor-true (is_set x j)

pub and-not-set : (w a b j : ℕ) → b < 2 ^ w → j < w → is_set (bit_and a ((2 ^ w - 1) - b)) j ≡ is_set a j && not (is_set b j)
and-not-set w a b j h l = and_set a ((2 ^ w - 1) - b) j ∙ ap (λ (q : Bool). is_set a j && q) (not_set w b j h l)

sum-table : (p q : Bool) → bit (xor p q) + 2 * bit (p && q) ≡ bit p + bit q
unfolding bit xor
sum-table true true = refl
sum-table true false = refl
sum-table false true = refl
sum-table false false = refl

-- of the sum of two bits `^` is the low digit, and `&` the carry
pub half-sum : (a b j : ℕ) → bit_at (bit_xor a b) j + 2 * bit_at (bit_and a b) j ≡ bit_at a j + bit_at b j
half-sum a b j = rw (bit-set (bit_xor a b), bit-set (bit_and a b), bit-set a, bit-set b, xor-set, and_set) (sum-table (is_set a j) (is_set b j))

-- ---- a mask of one bit

-- 1 shifted left by less than the width
pub one_shifted : (w j : ℕ) → j < w → 1 * 2 ^ j % 2 ^ w ≡ 2 ^ j
one_shifted w j h = shl_exact 1 j w (lit< tt) (omega arith) ∙ one-mul (2 ^ j)

-- what a mask of one bit keeps
and-bit : (x j : ℕ) → bit_and x (2 ^ j) ≡ bit_at x j * 2 ^ j
unfolding bit_at
and-bit x j =
    let e : 2 ^ (1 + j) - 2 ^ j ≡ 2 ^ j = ap (λ (n : ℕ). 2 ^ n - 2 ^ j) (one-add j) ∙ omega arith in
    ap (bit_and x) (sym e) ∙ and_high x 1 j

-- a test of bit j by that mask
pub mask-test : (w x j : ℕ) → j < w → not (eqb (bit_and x (1 * 2 ^ j % 2 ^ w)) 0) ≡ is_set x j
unfolding is_set
mask-test w x j h =
    ap (λ (m : ℕ). not (eqb (bit_and x m) 0)) (one_shifted w j h)
    ∙ ap (λ (m : ℕ). not (eqb m 0)) (and-bit x j)
    ∙ go (bit_at x j) (bit-lt x j)
  where
    go : (b : ℕ) → b < 2 → not (eqb (b * 2 ^ j) 0) ≡ eqb b 1
    go zero l = ap (λ (m : ℕ). not (eqb m 0)) (zero-mul (2 ^ j))
    go (suc zero) l = ap not (ne_eqb (1 * 2 ^ j) 0 (omega (arith, pow_pos j)))
    go (suc (suc b)) l = absurd (omega arith)

-- ---- the set bits, counted

ones_bit : (b : ℕ) → b < 2 → ones b ≡ bit (eqb b 1)
unfolding ones ones_in bit
ones_bit zero h = refl
ones_bit (suc zero) h = refl
ones_bit (suc (suc b)) h = absurd (omega arith)

-- of the k lowest bits
ones_below : (x k : ℕ) → ones (x % 2 ^ k) ≡ count_below k (is_set x)
unfolding count_below is_set
ones_below x zero = ap ones (omega arith) ∙ ones_bit zero (lit< tt)
ones_below x (suc k) =
    ap ones (ap (λ (n : ℕ). x % 2 ^ n) (sym (one-add k)) ∙ mod-pow-add x 1 k)
    ∙ ones_cat k (x / 2 ^ k % 2) (x % 2 ^ k) (mod-lt x (pow_pos k))
    ∙ ap₂ (λ (p q : ℕ). p + q) (ones_bit (bit_at x k) (bit-lt x k)) (ones_below x k)
    ∙ add_comm (bit (is_set x k)) (count_below k (is_set x))

-- the ones of a word of w bits are its set bits
pub ones-count : (w x : ℕ) → x < 2 ^ w → ones x ≡ count_below w (is_set x)
ones-count w x h = ap ones (sym (mod-eq_of_lt h)) ∙ ones_below x w

-- one row more, set or not
pub count_set : (p : ℕ → Bool) (j : ℕ) → p j ≡ true → count_below (j + 1) p ≡ count_below j p + 1
unfolding count_below
count_set p j h = rw (add-one j, h)

pub count-unset : (p : ℕ → Bool) (j : ℕ) → p j ≡ false → count_below (j + 1) p ≡ count_below j p
unfolding count_below
count-unset p j h = rw (add-one, h) (omega arith)
