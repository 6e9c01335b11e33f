-- The set bits of the segments that a word spells: of a fill all or none, of a literal its own.
-- Assumes nothing.
use Prim.Native.Nat.{ℕ, ◌*◌, ◌/◌, ◌%◌, ◌^◌, ◌<◌}
use mathlib.Core.Bool.{true, false, true≢false}
use mathlib.Core.Path.{◌≡◌, sym, ap, ap₂, ◌∙◌, subst}
use mathlib.Core.List.{List, [], ◌∷◌}
use lib.Dec.{lit<}
use lib.ListN.{length, replicate}
use native.Mathlib.Nat.{zero-add, zero-mul}
use native.Mathlib.Omega.{arith}
use borrow.Author.Tests.{leb-false}
use Rattle.meaning.specs.Rows.{count_below}
use Rattle.meaning.specs.Segment.{bit_at, is_set, has_row, ones, fill}
use Rattle.meaning.specs.Wah.{is_fill, fill_value, fill_count, wah_segments}
use Rattle.laws.specs.Demands.{IsNth}
use Rattle.laws.proofs.Counting.{ones-replicate, fill-count, nth-run, nth-word}
use Rattle.words.proofs.BitLaws.{count-unset}
use Rattle.wah.proofs.Spelled.{fill-spells, literal-spells}

ones-one : (w x : ℕ) → ones w (x ∷ []) ≡ count_below w (is_set x)
unfolding ones
ones-one w x = omega arith

-- a word alone
nth-alone : (w : ℕ) → 0 < w → (x k j : ℕ) → IsNth w (is_set x) k j → IsNth (length (x ∷ []) * w) (has_row w (x ∷ [])) k j
unfolding ones
nth-alone w pos x k j a = rw (zero-mul w, zero-add j, zero-add k) at (nth-word w pos (x ∷ []) 0 k j (omega arith) a)

module _ (x : ℕ) where
  -- ---- a fill of n segments of value v

  module _ (v n : ℕ) (is : is_fill x ≡ true) (value : v ≡ fill_value x) (count : n ≡ fill_count x) where
    its-segments : wah_segments (x ∷ []) ≡ replicate n (fill 31 v)
    its-segments = fill-spells x is ∙ ap₂ (λ (k u : ℕ). replicate k (fill 31 u)) (sym count) (sym value)

    pub fill-ones : v < 2 → n * (v * 31) ≡ ones 31 (wah_segments (x ∷ []))
    fill-ones l =
        sym (ap (ones 31) its-segments ∙ ones-replicate 31 n (fill 31 v) ∙ ap (λ (k : ℕ). n * k) (fill-count 31 v l))

    pub fill-nth : (k : ℕ) → v < 2 → k < ones 31 (wah_segments (x ∷ []))
        → IsNth (length (wah_segments (x ∷ [])) * 31) (has_row 31 (wah_segments (x ∷ []))) k k
    fill-nth k l h =
        let low : k < ones 31 (replicate n (fill 31 v)) = subst (λ (xs : List ℕ). k < ones 31 xs) its-segments h in
        subst (λ (xs : List ℕ). IsNth (length xs * 31) (has_row 31 xs) k k) (sym its-segments)
        (nth-run 31 (lit< tt) n v k l low)

  -- ---- a literal

  module _ (is : is_fill x ≡ false) where
    -- bit 31 is clear
    top-clear : is_set x 31 ≡ false
    unfolding is_set bit_at is_fill
    top-clear = let z : x / 2 ^ 31 % 2 ≡ 0 = omega (arith, leb-false 2147483648 x is) in rw z

    pub literal-ones : count_below 32 (is_set x) ≡ ones 31 (wah_segments (x ∷ []))
    literal-ones = count-unset (is_set x) 31 top-clear ∙ sym (ap (ones 31) (literal-spells x is) ∙ ones-one 31 x)

    pub literal-nth : (k j : ℕ) → IsNth 32 (is_set x) k j
        → IsNth (length (wah_segments (x ∷ [])) * 31) (has_row 31 (wah_segments (x ∷ []))) k j
    literal-nth k j a =
        subst (λ (xs : List ℕ). IsNth (length xs * 31) (has_row 31 xs) k j) (sym (literal-spells x is))
        (nth-alone 31 (lit< tt) x k j low)
      where
        other : j ≡ 31 → ⊥
        other e = true≢false (sym a.set ∙ ap (is_set x) e ∙ top-clear)

        low : IsNth 31 (is_set x) k j
        low = record { below = omega (arith, a.below, other); set = a.set; before = a.before }
