-- Words of zeros and of ones, and a choice between the bits of two words.
-- Assumes nothing.
use Prim.Native.Nat.{ℕ, ◌-◌, ◌^◌}
use mathlib.Core.Bool.{Bool, true, false, cond, not, xor, ◌&&◌}
use mathlib.Core.Path.{◌≡◌, refl, sym, ap, ◌∙◌}
use lib.Bits.{bit_and, bit_xor}
use native.Mathlib.Nat.{zero-div}
use Rattle.meaning.specs.Rows.{bit}
use Rattle.meaning.specs.Segment.{bit_at, is_set}
use Rattle.words.proofs.BitLaws.{bit-set, and_set, xor-set}

pub zero_bit : (j : ℕ) → bit_at 0 j ≡ 0
unfolding bit_at
zero_bit j = rw (zero-div (2 ^ j))

not-bit : (p : Bool) → bit (not p) ≡ 1 - bit p
unfolding bit
not-bit true = refl
not-bit false = refl

xor-true : (a : Bool) → xor a true ≡ not a
unfolding xor
xor-true true = refl
xor-true false = refl

xor-false : (a : Bool) → xor a false ≡ a
unfolding xor
xor-false true = refl
xor-false false = refl

-- a word flipped or not
pub flip_word : (flip : Bool) (v m j : ℕ) → is_set m j ≡ flip → bit_at (bit_xor v m) j ≡ cond flip (1 - bit_at v j) (bit_at v j)
flip_word flip v m j e = bit-set (bit_xor v m) j ∙ ap bit (xor-set v m j ∙ ap (xor (is_set v j)) e) ∙ go flip
  where
    go : (f : Bool) → bit (xor (is_set v j) f) ≡ cond f (1 - bit_at v j) (bit_at v j)
    go true = ap bit (xor-true (is_set v j)) ∙ not-bit (is_set v j) ∙ ap (λ (k : ℕ). 1 - k) (sym (bit-set v j))
    go false = ap bit (xor-false (is_set v j)) ∙ sym (bit-set v j)

choice-table : (a b m : Bool) → xor a (xor a b && m) ≡ cond m b a
unfolding xor
choice-table true true true = refl
choice-table true true false = refl
choice-table true false true = refl
choice-table true false false = refl
choice-table false true true = refl
choice-table false true false = refl
choice-table false false true = refl
choice-table false false false = refl

-- the word with b's bits where m has one, and a's elsewhere
abbrev pub choice_word : (a b m : ℕ) → ℕ
choice_word a b m = bit_xor a (bit_and (bit_xor a b) m)

pub choice-set : (a b m j : ℕ) → is_set (choice_word a b m) j ≡ cond (is_set m j) (is_set b j) (is_set a j)
choice-set a b m j =
    xor-set a (bit_and (bit_xor a b) m) j
    ∙ ap (xor (is_set a j)) (and_set (bit_xor a b) m j ∙ ap (λ (t : Bool). t && is_set m j) (xor-set a b j))
    ∙ choice-table (is_set a j) (is_set b j) (is_set m j)
