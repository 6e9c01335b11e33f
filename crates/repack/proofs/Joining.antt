-- Rows joined into one word, and a word of rows split, in numbers.
-- Assumes nothing.
use Prim.Native.Nat.{ℕ, ◌+◌, ◌-◌, ◌*◌, ◌/◌, ◌%◌, ◌^◌, ◌≤◌, ◌<◌}
use mathlib.Core.Bool.{Bool}
use mathlib.Core.Path.{◌≡◌, sym, ap, subst, ◌∙◌}
use lib.Arith.{digits_div}
use lib.Bits.{bit_and, and_mask}
use lib.Pow.{pow_pos, pow_mono, pow-add, shr_lt}
use native.Mathlib.Nat.{mul-le-mul_right, suc-mul, mod-lt}
use native.Mathlib.Omega.{arith}
use Rattle.meaning.specs.Segment.{word_of}
use Rattle.laws.proofs.RowWords.{word-ext, word_lt}
use Rattle.laws.proofs.WordJoin.{word-join, word_low}
use Rattle.words.proofs.BitLaws.{one_shifted}
use Rattle.repack.specs.Packing.{Added, Split}
use Rattle.repack.specs.declared.packer.Packer.{Packer}
use Rattle.repack.specs.declared.packer.Taken.{Taken}

-- the rows behind the first w of a word
word-high : (w n : ℕ) (q : ℕ → Bool) → word_of (w + n) q / 2 ^ w ≡ word_of n (λ j. q (w + j))
word-high w n q = rw (word-join w n q) (high (word_of w q) (word_of n (λ j. q (w + j))) (2 ^ w) (word_lt w q))
  where
    high : (a b m : ℕ) → a < m → (a + b * m) / m ≡ b
    high a b m h = let e : a + b * m ≡ b * m + a = omega arith in rw e (digits_div b h)

-- n rows out of the midst of a word, behind its first a
pub word-part : (m a n : ℕ) (q : ℕ → Bool) → a + n ≤ m → word_of m q / 2 ^ a % 2 ^ n ≡ word_of n (λ j. q (a + j))
word-part m a n q h =
    let e : m ≡ a + (n + (m - a - n)) = omega arith in
    ap (λ (z : ℕ). word_of z q / 2 ^ a % 2 ^ n) e
    ∙ ap (λ (z : ℕ). z % 2 ^ n) (word-high a (n + (m - a - n)) q)
    ∙ word_low n (m - a - n) (λ j. q (a + j))

-- a mask of the lowest n bits
pub masked : (x n : ℕ) → n ≤ 32 → bit_and x (1 * 2 ^ n % 2 ^ 64 - 1) ≡ x % 2 ^ n
masked x n h = ap (λ (m : ℕ). bit_and x (m - 1)) (one_shifted 64 n (omega arith)) ∙ and_mask x n

-- what it keeps is a word of 32 bits
pub lowest-fits : (x n : ℕ) → n ≤ 32 → x % 2 ^ n < 2 ^ 32
lowest-fits x n h = let g : 2 ^ n ≤ 2 ^ 32 = pow_mono {i = n} {j = 32} h in omega (arith, mod-lt x (pow_pos n))

-- a word of m bits and one of k bits behind it
pub joined-low : (a x m k : ℕ) → a < 2 ^ m → x < 2 ^ k → a + x * 2 ^ m < 2 ^ (m + k)
joined-low a x m k h g =
    let e : 2 ^ (m + k) ≡ 2 ^ k * 2 ^ m = ap (λ (n : ℕ). 2 ^ n) (omega arith) ∙ pow-add 2 k m in
    omega (arith, mul-le-mul_right (2 ^ m) g, suc-mul x (2 ^ m))

-- ---- a packer

module _ (p : Packer) (low : p.word < 2 ^ p.have) where
  -- with k rows more, the bits of x
  pub added : (x k : ℕ) (r : Packer) → x < 2 ^ k → r.have ≡ p.have + k → r.word ≡ p.word + x * 2 ^ p.have
      → Added p x k r
  added x k r few n b = record {
    have = n;
    low = rw (n, b) (joined-low p.word x p.have k low few);
    holds = λ q from h e.
        let s : x ≡ word_of k (λ j. q (from + (p.have + j))) = e ∙ word-ext k _ _ (λ j g. ap q (omega arith)) in
        let f : ℕ → Bool = λ j. q (from + j) in
        let t = ap (λ (z : ℕ). z * 2 ^ p.have) s in
        let all : r.word ≡ word_of (p.have + k) f = omega (arith, word-join p.have k f) in
        all ∙ ap (λ (m : ℕ). word_of m f) (sym n);
  }

  -- cut behind its first w rows
  pub split : (w : ℕ) (r : Taken) → w ≤ p.have → r.rest.have ≡ p.have - w → r.segment ≡ p.word % 2 ^ w
      → r.rest.word ≡ p.word / 2 ^ w → Split w p r
  split w r l n s b = record {
    have = n;
    low = rw (n, b) (shr_lt (p.have - w) w (subst (λ (m : ℕ). p.word < 2 ^ m) e low));
    holds = λ q from h.
        let f : ℕ → Bool = λ j. q (from + j) in
        let g : ℕ → Bool = λ j. q (from + w + j) in
        let all : p.word ≡ word_of (w + (p.have - w)) f = h ∙ ap (λ (z : ℕ). word_of z f) (omega arith) in
        let past = word-ext (p.have - w) (λ j. f (w + j)) g (λ j k. ap q (omega arith)) in (
          s ∙ ap (λ (z : ℕ). z % 2 ^ w) all ∙ word_low w (p.have - w) f,
          b ∙ ap (λ (z : ℕ). z / 2 ^ w) all ∙ word-high w (p.have - w) f ∙ past ∙ ap (λ (z : ℕ). word_of z g) (sym n),
        );
  }
    where
      e : p.have ≡ (p.have - w) + w
      e = omega arith
