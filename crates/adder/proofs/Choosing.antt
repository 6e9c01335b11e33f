-- The smaller of two numbers, and their difference or 0, digit by digit: which is no less is known.
-- Assumes nothing.
use Prim.Native.Nat.{ℕ, ◌+◌, ◌-◌, ◌*◌, ◌^◌, ◌<◌, min}
use mathlib.Core.Bool.{Bool, true, false, cond, ◌&&◌}
use mathlib.Core.Path.{◌≡◌, refl, sym, ap, ◌∙◌}
use mathlib.Core.List.{List}
use lib.Bits.{bit_and}
use lib.Dec.{eqb, leb}
use lib.ListN.{get_or}
use native.Mathlib.Decide.{dec_le}
use native.Mathlib.Omega.{arith}
use borrow.Author.Tests.{le-leb, lt-leb}
use Rattle.meaning.specs.Limits.{word_bits, block_segments}
use Rattle.meaning.specs.Segment.{bit_at, is_set}
use Rattle.column_meaning.specs.Column.{pair_value}
use Rattle.meaning.specs.declared.Pairing.TheVariants.{Difference, Smaller, DifferenceOrZero}
use Rattle.laws.proofs.Tests.{and_assoc}
use Rattle.words.proofs.BitLaws.{and_set}
use Rattle.adder.specs.Digits.{number_at, Paired, NotLess}
use Rattle.adder.specs.Blocks.{RowOf, ChosenBy, Existing}
use Rattle.adder.proofs.Adding.{weighed, digits_at, digits-bits, digit-of, no-less-digit}
use Rattle.adder.proofs.Bits.{zero_bit}
use Rattle.adder.proofs.Filling.{at_first, past-clear}

-- what exists is in the first row of a block that is there, and e has it too
pub existing-in : {op : (n x y : ℕ) → ℕ} {x y z e : List ℕ} {n : ℕ} → Paired op x y n z
    → ((w : ℕ) → w < block_segments → get_or z w 0 ≡ get_or e w 0) → Existing x y z e
existing-in p s = record {
  long = p.long;
  same = s;
  low = λ w l. let first : 0 * block_segments + w ≡ w = omega arith in rw first at (p.low 0 w (omega arith) l);
  exists = p.exists;
}

pub first-row : {z e : List ℕ} → RowOf z 0 e → (w : ℕ) → w < block_segments → get_or z w 0 ≡ get_or e w 0
first-row {z} r w l = sym (r.words w l ∙ at_first z w)

module _ (x y : List ℕ) (n i w j : ℕ) (l : i < n) where
  abbrev X : ℕ
  X = number_at x n w j

  abbrev Y : ℕ
  Y = number_at y n w j

  -- a number's digit is that of its row
  own-digit : (z : List ℕ) → is_set (number_at z n w j) i ≡ is_set (get_or z ((i + 1) * block_segments + w) 0) j
  unfolding is_set number_at
  own-digit z =
      let e : weighed (digits_at z w j) n ≡ weighed (digits_at z w j) n + 0 * 2 ^ n = omega arith in
      ap (λ (v : ℕ). eqb v 1)
      (ap (λ (v : ℕ). bit_at v i) e ∙ digit-of (digits_at z w j) (digits-bits z w j) n 0 i l)

  smaller-digit : cond (leb Y X) (is_set Y i) (is_set X i) ≡ is_set (pair_value Smaller n X Y) i
  unfolding pair_value
  smaller-digit = elim (dec_le Y X) [
    | yes h ↦ let m : min X Y ≡ Y = omega arith in rw (le-leb Y X h, m)
    | no h ↦ let m : min X Y ≡ X = omega arith in rw (lt-leb Y X (omega arith), m)
  ]

  -- where x is not less the difference's digits are its digits, and elsewhere there are none
  zero-digit : is_set (pair_value Difference n X Y) i && leb Y X ≡ is_set (pair_value DifferenceOrZero n X Y) i
  unfolding is_set pair_value number_at
  zero-digit = elim (dec_le Y X) [
    | yes h ↦
        rw (le-leb Y X h)
        (and-true (is_set (X + 2 ^ n - Y) i)
        ∙ ap (λ (v : ℕ). eqb v 1)
        (sym (no-less-digit (digits_at x w j) (digits_at y w j) (digits-bits x w j) (digits-bits y w j) n i l h)))
    | no h ↦
        let z : X - Y ≡ 0 = omega arith in
        rw (lt-leb Y X (omega arith), z, zero_bit i) (and-false (is_set (X + 2 ^ n - Y) i))
  ]
    where
      and-true : (b : Bool) → b && true ≡ b
      and-true true = refl
      and-true false = refl

      and-false : (b : Bool) → b && false ≡ false
      and-false true = refl
      and-false false = refl

-- row i of the smaller numbers
pub chosen-digit : {x y a b m d : List ℕ} {n i : ℕ} → NotLess x y n m
    → RowOf x ((i + 1) * block_segments) a → RowOf y ((i + 1) * block_segments) b → ChosenBy a b m d → i < n
    → (w j : ℕ) → w < block_segments → j < word_bits
    → is_set (get_or d w 0) j ≡ is_set (pair_value Smaller n (number_at x n w j) (number_at y n w j)) i
chosen-digit {x} {y} {a} {b} {m} {d} {n} {i} less p q c h w j l k =
    c.bits w j l
    ∙ ap₃ (less.bits w j l k)
    (ap (λ (v : ℕ). is_set v j) (q.words w l) ∙ sym (own-digit x y n i w j h y))
    (ap (λ (v : ℕ). is_set v j) (p.words w l) ∙ sym (own-digit x y n i w j h x))
    ∙ smaller-digit x y n i w j h
  where
    ap₃ : {s s' t t' u u' : Bool} → s ≡ s' → t ≡ t' → u ≡ u' → cond s t u ≡ cond s' t' u'
    ap₃ e f g = rw (e, f, g)

-- row i of the difference in the block z, masked where x is less
pub kept-digit : {x y z m : List ℕ} {n : ℕ} (a : List ℕ) (i : ℕ) → NotLess x y n m → Paired (pair_value Difference) x y n z → i < n
    → ((w : ℕ) → w < block_segments → get_or a w 0 ≡ get_or z ((i + 1) * block_segments + w) 0)
    → (w j : ℕ) → w < block_segments
    → is_set (bit_and (get_or a w 0) (get_or m w 0)) j
    ≡ is_set (get_or z w 0) j && is_set (pair_value DifferenceOrZero n (number_at x n w j) (number_at y n w j)) i
kept-digit {x} {y} {z} {m} {n} a i less p h r w j l =
    and_set (get_or a w 0) (get_or m w 0) j
    ∙ ap (λ (t : Bool). t && is_set (get_or m w 0) j) in_row
    ∙ and_assoc e (is_set D i) (is_set (get_or m w 0) j)
    ∙ masked
  where
    e : Bool
    e = is_set (get_or z w 0) j

    D : ℕ
    D = pair_value Difference n (number_at x n w j) (number_at y n w j)

    in_row : is_set (get_or a w 0) j ≡ is_set (get_or z w 0) j && is_set (pair_value Difference n (number_at x n w j) (number_at y n w j)) i
    in_row = ap (λ (v : ℕ). is_set v j) (r w l) ∙ p.digits i w j h l

    -- past a word's bits nothing exists
    masked : is_set (get_or z w 0) j && (is_set D i && is_set (get_or m w 0) j)
        ≡ is_set (get_or z w 0) j && is_set (pair_value DifferenceOrZero n (number_at x n w j) (number_at y n w j)) i
    masked = elim (dec_le word_bits j) [
      | yes k ↦
          let first : 0 * block_segments + w ≡ w = omega arith in
          let low : get_or z w 0 < 2 ^ 32 = rw first at (p.low 0 w (omega arith) l) in
          rw (past-clear (get_or z w 0) j low k)
      | no k ↦
          ap (λ (t : Bool). is_set (get_or z w 0) j && t)
          (ap (λ (t : Bool). is_set D i && t) (less.bits w j l (omega arith)) ∙ zero-digit x y n i w j h)
    ]
