-- A full adder on words: three rows of bits added at once, each bit of the sum a digit and a carry.
-- Assumes nothing.
use Prim.Native.Nat.{ℕ, ◌+◌, ◌*◌, max}
use mathlib.Core.Path.{◌≡◌, sym, ap, ap₂, ◌∙◌}
use mathlib.Core.List.{List}
use lib.Bits.{bit_and, bit_or, bit_xor}
use lib.ListN.{get_or}
use native.Mathlib.Omega.{arith}
use Rattle.meaning.specs.Rows.{bit}
use Rattle.meaning.specs.Segment.{bit_at, is_set}
use Rattle.words.specs.Sums.{Added}
use Rattle.words.proofs.BitLaws.{bit-lt, bit-set, half-sum, or_set, or-table}
use Rattle.words.proofs.Entries.{Filled}

or-max : (a b j : ℕ) → bit_at (bit_or a b) j ≡ max (bit_at a j) (bit_at b j)
or-max a b j =
    bit-set (bit_or a b) j ∙ ap bit (or_set a b j) ∙ sym (or-table (is_set a j) (is_set b j))
    ∙ sym (ap₂ max (bit-set a j) (bit-set b j))

-- the digit and the carry of three bits
abbrev pub digit_word : (a b c : ℕ) → ℕ
digit_word a b c = bit_xor (bit_xor a b) c

abbrev pub carry_word : (a b c : ℕ) → ℕ
carry_word a b c = bit_or (bit_and a b) (bit_and (bit_xor a b) c)

-- at each bit they are the sum of the three
pub full-sum : (a b c j : ℕ)
    → bit_at (digit_word a b c) j + 2 * bit_at (carry_word a b c) j ≡ bit_at a j + bit_at b j + bit_at c j
full-sum a b c j =
    omega (
      arith,
      half-sum a b j,
      half-sum (bit_xor a b) c j,
      or-max (bit_and a b) (bit_and (bit_xor a b) c) j,
      bit-lt a j,
      bit-lt b j,
      bit-lt c j,
      bit-lt (bit_xor (bit_xor a b) c) j,
    )

-- word w of what f makes of three rows
abbrev pub wordwise : (f : (a b c : ℕ) → ℕ) (a b c : List ℕ) (w : ℕ) → ℕ
wordwise f a b c w = f (get_or a w 0) (get_or b w 0) (get_or c w 0)

-- rows filled word by word by such an adder
pub added-all : (n : ℕ) (a b c was digits carries : List ℕ)
    → Filled (wordwise digit_word a b c) was digits n
    → Filled (wordwise carry_word a b c) was carries n → Added n a b c digits carries
added-all n a b c was digits carries d e = record {
  sums = λ w j l.
      rw (d.done w l, e.done w l) (full-sum (get_or a w 0) (get_or b w 0) (get_or c w 0) j);
}
