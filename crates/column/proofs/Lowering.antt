-- The lowest row of a set, word by word, in segments of w rows.
-- Assumes nothing.
use Prim.Native.Nat.{ℕ, ◌+◌, ◌-◌, ◌*◌, ◌/◌, ◌^◌, ◌≤◌, ◌<◌}
use mathlib.Core.Bool.{Bool, true, false, true≢false}
use mathlib.Core.Path.{◌≡◌, refl, sym, ap, ◌∙◌, subst}
use native.Mathlib.Decide.{dec_le}
use native.Mathlib.Nat.{add-mul, mul-le-mul_left, mul-le-mul_right, div-eq_of_lt}
use native.Mathlib.Omega.{arith}
use lib.Bits.{bit_and, and_le_l}
use lib.Pow.{pow_mono}
use Rattle.meaning.specs.Limits.{most_segments, word_bits}
use Rattle.meaning.specs.Rows.{count_below, nth_below}
use Rattle.meaning.specs.Segment.{is_set, bit_at}
use Rattle.laws.specs.Demands.{IsNth}
use Rattle.laws.proofs.Counted.{nth-holds}
use Rattle.laws.proofs.Counting.{zero_clear, count_add}
use Rattle.laws.proofs.RowWords.{word-by-bits}
use Rattle.words.proofs.BitLaws.{and-not-set, count_set}
use Rattle.column.specs.Outside.{OverBits, Spells, NoneBelow, Lowest}

-- the bits of `x & !e`, where x has w bits
pub over-bits : (x e : ℕ) → e < 2 ^ 32 → (w : ℕ) → w ≤ word_bits → x < 2 ^ w
    → OverBits w x e (bit_and x ((2 ^ 32 - 1) - e))
over-bits x e h w l k = record {
  low = omega (arith, and_le_l x ((2 ^ 32 - 1) - e));
  bits = λ j g. and-not-set 32 x e j h (omega arith);
}

-- ---- one word

-- a set with a row below n is counted there
some-row : (n : ℕ) (p : ℕ → Bool) (j : ℕ) → j < n → p j ≡ true → 0 < count_below n p
some-row n p j h e =
    let z : (j + 1) + (n - (j + 1)) ≡ n = omega arith in
    omega (arith, ap (λ (k : ℕ). count_below k p) z, count_add (j + 1) (n - (j + 1)) p, count_set p j e)

-- one that is not counted has none
none-counted : (n : ℕ) (p : ℕ → Bool) → count_below n p ≡ 0 → NoneBelow n p
none-counted n p z j h = go (p j) refl
  where
    go : (t : Bool) → p j ≡ t → p j ≡ false
    go false e = e
    go true e = absurd (omega (arith, some-row n p j h e))

-- a word that is not 0 has a bit
pub has-bit : (y : ℕ) → y < 2 ^ 32 → (y ≡ 0 → ⊥) → 0 < count_below 32 (is_set y)
has-bit y h z = elim (dec_le 1 (count_below 32 (is_set y))) [
  | yes l ↦ l
  | no l ↦
      let none = none-counted 32 (is_set y) (omega arith) in
      absurd (z (word-by-bits 32 y 0 h (omega arith) (λ j k. none j k ∙ sym (zero_clear j))))
]

-- a word of w bits has no bit behind them
clear_above : (w y j : ℕ) → y < 2 ^ w → w ≤ j → is_set y j ≡ false
unfolding is_set bit_at
clear_above w y j h l = let z : y / 2 ^ j ≡ 0 = div-eq_of_lt (omega (arith, pow_mono l)) in rw z

set-low : (w y j : ℕ) → y < 2 ^ w → is_set y j ≡ true → j < w
set-low w y j h e = elim (dec_le w j) [
  | yes l ↦ absurd (true≢false (sym e ∙ clear_above w y j h l))
  | no l ↦ omega arith
]

-- the lowest of the bits of a word of w bits
lowest-bit : (w y j : ℕ) → w ≤ word_bits → y < 2 ^ w → (y ≡ 0 → ⊥) → j ≡ nth_below 32 (is_set y) 0 → Lowest w (is_set y) j
lowest-bit w y j l h z e =
    let is = (nth-holds 32 (is_set y) 0 (has-bit y (omega (arith, pow_mono l)) z)).is in
    let i : IsNth 32 (is_set y) 0 j = subst (λ (k : ℕ). IsNth 32 (is_set y) 0 k) (sym e) is in
    record { below = set-low w y j h i.set; set = i.set; before = none-counted j (is_set y) i.before }

-- the rows of a segment are few enough to be numbered, in any of the segments of a body
pub place-low : (w i n : ℕ) → w ≤ word_bits → i < n → n ≤ most_segments → i * w + w ≤ most_segments * word_bits
place-low w i n h l g = let k : i + 1 ≤ n = omega arith in omega (arith, add-mul i 1 w, mul-le-mul_left (i + 1) h)

-- ---- word i, where no word before it has a row of p

module _ (w : ℕ) (p : ℕ → Bool) (x e : ℕ → ℕ) (n i y : ℕ) (s : Spells w p x e n) (l : i < n)
    (none : NoneBelow (i * w) p) (g : OverBits w (x i) (e i) y) where
  -- a row of it, up to bit j
  in-word : (j : ℕ) → j ≤ w → NoneBelow j (is_set y) → NoneBelow (i * w + j) p
  in-word j h b r k = elim (dec_le (i * w) r) [
    | yes a ↦
        let j = r - i * w in
        let z : r ≡ i * w + j = omega arith in
        ap p z ∙ s.bits i j l (omega arith) ∙ sym (g.bits j (omega arith)) ∙ b j (omega arith)
    | no a ↦ none r (omega arith)
  ]

  -- it has none
  pub none_more : y ≡ 0 → NoneBelow ((i + 1) * w) p
  none_more z =
      let e : i * w + w ≡ (i + 1) * w = omega (arith, add-mul i 1 w) in
      subst (λ (k : ℕ). NoneBelow k p) e (in-word w (omega arith) (λ j h. ap (λ (v : ℕ). is_set v j) z ∙ zero_clear j))

  -- it has the lowest
  pub lowest-here : (j : ℕ) → w ≤ word_bits → (y ≡ 0 → ⊥) → j ≡ nth_below 32 (is_set y) 0 → Lowest (n * w) p (i * w + j)
  lowest-here j f z is =
      let b = lowest-bit w y j f g.low z is in
      let h : j < w = b.below in
      let k : i + 1 ≤ n = omega arith in
      record {
        below = omega (arith, mul-le-mul_right w k, add-mul i 1 w);
        set = s.bits i j l h ∙ sym (g.bits j h) ∙ b.set;
        before = in-word j (omega arith) b.before;
      }
