-- A word of a + b bits is two words joined, and its low bits are the first.
-- Assumes nothing.
use Prim.Native.Nat.{ℕ, zero, suc, ◌+◌, ◌*◌, ◌%◌, ◌^◌, ◌<◌}
use mathlib.Core.Bool.{Bool}
use mathlib.Core.Path.{◌≡◌, ap, ◌∙◌}
use lib.Arith.{digits_mod}
use native.Mathlib.Omega.{arith}
use Rattle.meaning.specs.Segment.{word_of}
use Rattle.laws.proofs.RowWords.{word-ext, word_lt}

pub word-join : (a b : ℕ) (q : ℕ → Bool) → word_of (a + b) q ≡ word_of a q + word_of b (λ j. q (a + j)) * 2 ^ a
unfolding word_of
word-join zero b q =
    let e : 0 + b ≡ b = omega arith in
    ap (λ (n : ℕ). word_of n q) e ∙ omega (arith, word-ext b q (λ j. q (0 + j)) (λ j h. ap q (omega arith)))
word-join (suc a) b q =
    let e : suc a + b ≡ suc (a + b) = omega arith in
    let ih = word-join a b (λ j. q (suc j)) in
    let same = word-ext b (λ j. q (suc (a + j))) (λ j. q (suc a + j)) (λ j h. ap q (omega arith)) in
    let x = word_of b (λ j. q (suc a + j)) in
    let two : x * 2 ^ suc a ≡ 2 * (x * 2 ^ a) = double x (2 ^ a) (2 ^ suc a) (omega arith) in
    ap (λ (n : ℕ). word_of n q) e ∙ omega (arith, ih, ap (λ (z : ℕ). z * 2 ^ a) same, two)
  where
    double : (x p r : ℕ) → r ≡ 2 * p → x * r ≡ 2 * (x * p)
    double x p r e = rw e (swap x p)
      where
        swap : (x p : ℕ) → x * (2 * p) ≡ 2 * (x * p)
        swap zero p = omega arith
        swap (suc x) p = omega (arith, swap x p)

pub word_low : (w n : ℕ) (q : ℕ → Bool) → word_of (w + n) q % 2 ^ w ≡ word_of w q
word_low w n q = rw (word-join w n q) (low (word_of w q) (word_of n (λ j. q (w + j))) (2 ^ w) (word_lt w q))
  where
    low : (a b m : ℕ) → a < m → (a + b * m) % m ≡ a
    low a b m h = let e : a + b * m ≡ b * m + a = omega arith in rw e (digits_mod b h)
