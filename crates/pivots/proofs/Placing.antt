-- How many rows of segments have just so many set ones: in a word, in a block word by word, and in a run.
-- Assumes nothing.
use Prim.Native.Nat.{ℕ, ◌+◌, ◌-◌, ◌*◌, ◌/◌, ◌^◌, ◌≤◌, ◌<◌}
use mathlib.Core.Bool.{Bool, true, false, true≢false}
use mathlib.Core.Path.{◌≡◌, refl, sym, ap, subst, ◌∙◌}
use mathlib.Core.List.{List}
use lib.ListN.{get_or}
use lib.Pow.{pow_mono}
use native.Mathlib.Decide.{dec_le}
use native.Mathlib.Nat.{div-eq_of_lt, mul-le-mul_right, suc-mul}
use native.Mathlib.Numerals.{add-one}
use native.Mathlib.Omega.{arith}
use Rattle.meaning.specs.Rows.{sum_below, count_below, nth_below}
use Rattle.meaning.specs.Segment.{bit_at, is_set}
use Rattle.meaning.specs.Format.{width}
use Rattle.meaning.specs.declared.Format.{Format}
use Rattle.laws.proofs.Counted.{count_none, nth-holds}
use Rattle.laws.proofs.Counting.{count-all, count-le}
use Rattle.words.proofs.BitLaws.{count_set}
use Rattle.block_read.specs.Taken.{word_at}
use Rattle.pivots.specs.Splits.{HasRows, Reached}
use Rattle.pivots.proofs.Counting.{set_word, own-word, whole-count, part_count}

-- ---- in a word

-- a set bit lies in the word
set_below : (x w j : ℕ) → x < 2 ^ w → is_set x j ≡ true → j < w
unfolding is_set bit_at
set_below x w j h e = elim (dec_le w j) [
  | yes l ↦
      let z : x / 2 ^ j ≡ 0 = div-eq_of_lt (omega (arith, pow_mono l)) in
      absurd (true≢false (sym e ∙ rw z))
  | no l ↦ omega arith
]

-- up to the set bit j that has n - 1 set ones below it there are n
pub bits-reached : (x n j : ℕ) → (n ≡ 0 → ⊥) → n ≤ count_below 32 (is_set x) → j ≡ nth_below 32 (is_set x) (n - 1)
    → (count_below (j + 1) (is_set x) ≡ n) × ((w : ℕ) → x < 2 ^ w → j + 1 ≤ w)
bits-reached x n j z l e =
    let some : n - 1 < count_below 32 (is_set x) = omega arith in
    let nth = (nth-holds 32 (is_set x) (n - 1) some).is in
    let is-set : is_set x j ≡ true = ap (is_set x) e ∙ nth.set in
    let before : count_below j (is_set x) ≡ n - 1 = ap (λ (k : ℕ). count_below k (is_set x)) e ∙ nth.before in
    (omega (arith, count_set (is_set x) j is-set), λ w h. omega (arith, set_below x w j h is-set))

-- ---- in a block

-- a segment more
pub set_next : (ws : List ℕ) (i : ℕ)
    → sum_below (i + 1) (set_word false ws) ≡ sum_below i (set_word false ws) + count_below 32 (is_set (get_or ws i 0))
unfolding sum_below
set_next ws i =
    rw (add-one i)
    (ap (λ (x : ℕ). sum_below i (set_word false ws) + count_below 32 (is_set x)) (own-word false ws i refl))

module _ {F : Format} {o n : ℕ} {ws : List ℕ} {p : ℕ → Bool} (h : HasRows F o n false ws p) where
  -- the last of them lies among the first j bits of segment i
  pub block-reached : (w take i left j : ℕ) → w ≡ width F → i < n → left + sum_below i (set_word false ws) ≡ take
      → count_below j (is_set (get_or ws i 0)) ≡ left → ((v : ℕ) → get_or ws i 0 < 2 ^ v → j ≤ v)
      → Reached F o n p take (i * w + j)
  block-reached w take i left j e l s c below enough =
      let own = own-word false ws i refl in
      let low : j ≤ width F = below (width F) (subst (λ (x : ℕ). x < 2 ^ width F) own (h.low i l)) in
      let same : count_below j (is_set (word_at false ws 0 i)) ≡ left = ap (λ (x : ℕ). count_below j (is_set x)) own ∙ c in
      subst (λ (v : ℕ). (i * v + j ≤ n * width F) × (count_below (i * v + j) (λ k. p (o * width F + k)) ≡ take)) (sym e)
      (omega (arith, mul-le-mul_right (width F) l, suc-mul i (width F)), omega (arith, part_count h i j l low))

  -- there are no more than all
  pub block-passed : (w take left : ℕ) → w ≡ width F → left + sum_below n (set_word false ws) ≡ take
      → Reached F o n p take (n * w)
  block-passed w take left e s enough =
      subst (λ (v : ℕ). (n * v ≤ n * width F) × (count_below (n * v) (λ k. p (o * width F + k)) ≡ take)) (sym e)
      (omega arith, omega (arith, whole-count h n (omega arith)))

-- ---- in a run

-- whose rows are all set, or none
pub run-reached : (F : Format) (o n : ℕ) (p : ℕ → Bool) (take : ℕ)
    → ((k : ℕ) → k < n * width F → p (o * width F + k) ≡ p (o * width F)) → Reached F o n p take take
run-reached F o n p take same enough = (within, all (p (o * width F)) refl)
  where
    q : ℕ → Bool
    q k = p (o * width F + k)

    within : take ≤ n * width F
    within = omega (arith, count-le (n * width F) q)

    all : (t : Bool) → p (o * width F) ≡ t → count_below take q ≡ take
    all true e = count-all take q (λ k l. same k (omega (arith, within)) ∙ e)
    all false e =
        let none : count_below (n * width F) q ≡ 0 = count_none (n * width F) q (λ k l. same k l ∙ e) in
        let z : take ≡ 0 = omega arith in
        omega (arith, count-le take q)
