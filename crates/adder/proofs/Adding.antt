-- Digits of sums and differences: the digits of a number that digits by their weights make, those of the sum of two such
-- numbers, and the carries from row to row. A difference is a sum too, with the other digits of the second number.
-- Assumes nothing.
use Prim.Native.Nat.{ℕ, zero, suc, ◌+◌, ◌-◌, ◌*◌, ◌/◌, ◌%◌, ◌^◌, ◌≤◌, ◌<◌}
use mathlib.Core.Path.{◌≡◌, sym, ap, ap₂, ◌∙◌, subst}
use mathlib.Core.Bool.{Bool, true, false, cond, false≢true}
use mathlib.Core.List.{List}
use lib.Dec.{eqb, leb, lit<}
use lib.ListN.{get_or, replicate, get_or-replicate}
use lib.Pow.{high}
use native.Mathlib.Numerals.{add-one}
use native.Mathlib.Nat.{mod-lt, pow-suc}
use native.Mathlib.Decide.{dec_le}
use native.Mathlib.Omega.{arith}
use borrow.Author.Tests.{le-leb, lt-leb}
use Rattle.meaning.specs.Limits.{word_bits, block_segments}
use Rattle.meaning.specs.Rows.{bit, sum_below}
use Rattle.meaning.specs.Segment.{bit_at, is_set}
use Rattle.column_meaning.specs.Column.{pair_value}
use Rattle.meaning.specs.declared.Pairing.TheVariants.{Sum, Difference}
use Rattle.words.proofs.BitLaws.{bit-lt}
use Rattle.adder.specs.Digits.{number_at, NotLess}
use Rattle.adder.specs.Blocks.{RowOf, Flipped}
use Rattle.words.specs.Sums.{Added}

-- ---- digits by their weights

-- the number whose n lowest digits f gives
abbrev pub weighed : (f : ℕ → ℕ) (n : ℕ) → ℕ
weighed f n = sum_below n (λ i. f i * 2 ^ i)

-- n digits make a number below 2 ^ n
pub low-digits : (f : ℕ → ℕ) → ((i : ℕ) → f i < 2) → (n : ℕ) → weighed f n < 2 ^ n
unfolding sum_below
low-digits f h zero = omega arith
low-digits f h (suc n) = go (f n) (h n) (low-digits f h n)
  where
    go : (b : ℕ) → b < 2 → weighed f n < 2 ^ n → weighed f n + b * 2 ^ n < 2 ^ suc n
    go zero l g = omega arith
    go (suc zero) l g = omega arith
    go (suc (suc b)) l g = absurd (omega arith)

-- and are its digits, whatever stands above them
pub digit-of : (f : ℕ → ℕ) → ((i : ℕ) → f i < 2) → (n c i : ℕ) → i < n → bit_at (weighed f n + c * 2 ^ n) i ≡ f i
unfolding sum_below bit_at
digit-of f h zero c i l = absurd (omega arith)
digit-of f h (suc n) c i l =
    let e : weighed f n + f n * 2 ^ n + c * 2 ^ suc n ≡ weighed f n + (f n + 2 * c) * 2 ^ n =
    rw (pow-suc 2 n) (omega arith) in
    rw e
    elim (dec_le (suc i) n) [
      | yes g ↦ digit-of f h n (f n + 2 * c) i g
      | no g ↦ let i-is : i ≡ n = omega arith in rw i-is top
    ]
  where
    top : bit_at (weighed f n + (f n + 2 * c) * 2 ^ n) n ≡ f n
    top =
        let q : weighed f n + (f n + 2 * c) * 2 ^ n ≡ (f n + 2 * c) * 2 ^ n + weighed f n = omega arith in
        rw q (ap (λ (k : ℕ). k % 2) (high (f n + 2 * c) n (low-digits f h n)) ∙ omega (arith, h n))

-- ---- the sum of two numbers, digit by digit

-- the carry into digit i of the sum of the numbers whose digits are f and g, where c is carried into the lowest
unfoldable pub carry_into : (c : ℕ) (f g : ℕ → ℕ) (i : ℕ) → ℕ
carry_into c f g zero = c
carry_into c f g (suc i) = (f i + g i + carry_into c f g i) / 2

-- what is added up at digit i, and the sum's digit there
abbrev pub added_at : (c : ℕ) (f g : ℕ → ℕ) (i : ℕ) → ℕ
added_at c f g i = f i + g i + carry_into c f g i

abbrev digit_of : (c : ℕ) (f g : ℕ → ℕ) (i : ℕ) → ℕ
digit_of c f g i = added_at c f g i % 2

digit_low : (c : ℕ) (f g : ℕ → ℕ) (i : ℕ) → digit_of c f g i < 2
digit_low c f g i = mod-lt (added_at c f g i) (lit< tt)

carry-low : (c : ℕ) (f g : ℕ → ℕ) → c < 2 → ((i : ℕ) → f i < 2) → ((i : ℕ) → g i < 2)
    → (i : ℕ) → carry_into c f g i < 2
unfolding carry_into
carry-low c f g l hf hg zero = l
carry-low c f g l hf hg (suc i) = omega (arith, hf i, hg i, carry-low c f g l hf hg i)

-- the digits of the sum, and the last carry above them
sum-weighed : (c : ℕ) (f g : ℕ → ℕ) (n : ℕ)
    → weighed f n + weighed g n + c ≡ weighed (digit_of c f g) n + carry_into c f g n * 2 ^ n
unfolding sum_below carry_into
sum-weighed c f g zero = omega arith
sum-weighed c f g (suc n) =
    let s : ℕ = added_at c f g n in
    let e : (s % 2 + 2 * (s / 2)) * 2 ^ n ≡ s * 2 ^ n = ap (λ (k : ℕ). k * 2 ^ n) (omega arith) in
    rw (pow-suc 2 n) (omega (arith, e, sum-weighed c f g n))

-- digit i of the sum is the low digit of what is added up there
sum-digit : (c : ℕ) (f g : ℕ → ℕ) (n i : ℕ) → i < n → bit_at (weighed f n + weighed g n + c) i ≡ digit_of c f g i
sum-digit c f g n i l =
    ap (λ (k : ℕ). bit_at k i) (sum-weighed c f g n)
    ∙ digit-of (digit_of c f g) (digit_low c f g) n (carry_into c f g n) i l

-- ---- the difference, as a sum with the other digits of the second number, and 1 carried into the lowest

abbrev pub flip : (g : ℕ → ℕ) → ℕ → ℕ
flip g i = 1 - g i

module _ (f g : ℕ → ℕ) (hf : (i : ℕ) → f i < 2) (hg : (i : ℕ) → g i < 2) where
  -- a number and that of the other digits make all digits set
  flip-weighed : (n : ℕ) → weighed (flip g) n + weighed g n + 1 ≡ 2 ^ n
  unfolding sum_below
  flip-weighed zero = omega arith
  flip-weighed (suc n) = go (g n) (hg n) (flip-weighed n)
    where
      go : (b : ℕ) → b < 2 → weighed (flip g) n + weighed g n + 1 ≡ 2 ^ n
          → weighed (flip g) n + (1 - b) * 2 ^ n + (weighed g n + b * 2 ^ n) + 1 ≡ 2 ^ suc n
      go zero l h = rw (pow-suc 2 n) (omega arith)
      go (suc zero) l h = rw (pow-suc 2 n) (omega arith)
      go (suc (suc b)) l h = absurd (omega arith)

  difference-sum : (n : ℕ) → weighed f n + 2 ^ n - weighed g n ≡ weighed f n + weighed (flip g) n + 1
  difference-sum n = omega (arith, flip-weighed n)

  abbrev last : (n : ℕ) → ℕ
  last n = carry_into 1 f (flip g) n

  -- what the digits and the last carry make of it
  weighs : (n : ℕ) → weighed f n + 2 ^ n - weighed g n ≡ weighed (digit_of 1 f (flip g)) n + last n * 2 ^ n
  weighs n = difference-sum n ∙ sum-weighed 1 f (flip g) n

  digits_low : (n : ℕ) → weighed (digit_of 1 f (flip g)) n < 2 ^ n
  digits_low n = low-digits (digit_of 1 f (flip g)) (digit_low 1 f (flip g)) n

  last-low : (n : ℕ) → last n < 2
  last-low n = carry-low 1 f (flip g) (omega arith) hf (λ i. omega arith) n

  by_last : (n c : ℕ) → c < 2
      → weighed f n + 2 ^ n - weighed g n ≡ weighed (digit_of 1 f (flip g)) n + c * 2 ^ n
      → eqb c 1 ≡ leb (weighed g n) (weighed f n)
  by_last n zero l e =
      sym (lt-leb (weighed g n) (weighed f n) (omega (arith, digits_low n, low-digits g hg n)))
  by_last n (suc zero) l e =
      sym (le-leb (weighed g n) (weighed f n) (omega (arith, low-digits g hg n)))
  by_last n (suc (suc c)) l e = absurd (omega arith)

  -- the last carry is set where the first number is no less
  pub last_says : (n : ℕ) → eqb (last n) 1 ≡ leb (weighed g n) (weighed f n)
  last_says n = by_last n (last n) (last-low n) (weighs n)

  pub difference-digit : (n i : ℕ) → i < n → bit_at (weighed f n + 2 ^ n - weighed g n) i ≡ digit_of 1 f (flip g) i
  difference-digit n i l = ap (λ (k : ℕ). bit_at k i) (difference-sum n) ∙ sum-digit 1 f (flip g) n i l

  -- where it is no less, the digits alone are the difference
  pub no-less-digit : (n i : ℕ) → i < n → weighed g n ≤ weighed f n
      → bit_at (weighed f n - weighed g n) i ≡ bit_at (weighed f n + 2 ^ n - weighed g n) i
  no-less-digit n i l h =
      let D : ℕ = weighed (digit_of 1 f (flip g)) n in
      let e : weighed f n - weighed g n ≡ D + 0 * 2 ^ n = alone (last n) (last-low n) (weighs n) in
      ap (λ (k : ℕ). bit_at k i) e
      ∙ digit-of (digit_of 1 f (flip g)) (digit_low 1 f (flip g)) n 0 i l
      ∙ sym (difference-digit n i l)
    where
      alone : (c : ℕ) → c < 2
          → weighed f n + 2 ^ n - weighed g n ≡ weighed (digit_of 1 f (flip g)) n + c * 2 ^ n
          → weighed f n - weighed g n ≡ weighed (digit_of 1 f (flip g)) n + 0 * 2 ^ n
      alone zero s e = absurd (omega (arith, digits_low n))
      alone (suc zero) s e = omega arith
      alone (suc (suc c)) s e = absurd (omega arith)

-- ---- from row to row

-- the digits that the rows behind the first have at bit j of their word w
abbrev pub digits_at : (x : List ℕ) (w j : ℕ) → ℕ → ℕ
digits_at x w j i = bit_at (get_or x ((i + 1) * block_segments + w) 0) j

pub digits-bits : (x : List ℕ) (w j i : ℕ) → digits_at x w j i < 2
digits-bits x w j i = bit-lt (get_or x ((i + 1) * block_segments + w) 0) j

-- f gives at each bit of each word the digits of a number, of which the row a has digit i
pub record HasDigit (f : (w j : ℕ) → ℕ → ℕ) (i : ℕ) (a : List ℕ) : Type 0 where
  pub bits : (w j : ℕ) → w < block_segments → j < word_bits → bit_at (get_or a w 0) j ≡ f w j i

pub row-digit : {x a : List ℕ} {i : ℕ} → RowOf x ((i + 1) * block_segments) a → HasDigit (digits_at x) i a
row-digit p = record { bits = λ w j l k. ap (λ (v : ℕ). bit_at v j) (p.words w l) }

-- the digits, or the other ones
abbrev pub turned : (flip : Bool) (g : ℕ → ℕ) → ℕ → ℕ
turned flip g i = cond flip (1 - g i) (g i)

pub turned-digit : {flip : Bool} {y b r : List ℕ} {i : ℕ} → RowOf y ((i + 1) * block_segments) b → Flipped flip b r
    → HasDigit (λ w j. turned flip (digits_at y w j)) i r
turned-digit {flip = flip} p q = record { bits = λ w j l k. q.bits w j l k ∙ ap (λ (v : ℕ). cond flip (1 - bit_at v j) (bit_at v j)) (p.words w l) }

-- the carries into digit i, at every bit of every word
pub record Carrying (c : ℕ) (f g : (w j : ℕ) → ℕ → ℕ) (i : ℕ) (carry : List ℕ) : Type 0 where
  pub bits : (w j : ℕ) → w < block_segments → j < word_bits → bit_at (get_or carry w 0) j ≡ carry_into c (f w j) (g w j) i

-- into the lowest: a word that is c at each bit
pub carrying-none : (c : ℕ) (f g : (w j : ℕ) → ℕ → ℕ) (v : ℕ) → ((j : ℕ) → j < word_bits → bit_at v j ≡ c)
    → Carrying c f g 0 (replicate block_segments v)
unfolding carry_into
carrying-none c f g v h =
    record { bits = λ w j l k. rw (get_or-replicate {A = ℕ} block_segments w v 0 l) (h j k) }

module _ {c : ℕ} {f g : (w j : ℕ) → ℕ → ℕ} {a b carry digits carries : List ℕ} {i : ℕ}
    (h : Carrying c f g i carry) (p : HasDigit f i a) (q : HasDigit g i b)
    (s : Added block_segments a b carry digits carries) where
  -- what is added up at digit i, at bit j of word w, is what the adder makes of the rows
  added : (w j : ℕ) → w < block_segments → j < word_bits
      → bit_at (get_or digits w 0) j + 2 * bit_at (get_or carries w 0) j ≡ added_at c (f w j) (g w j) i
  added w j l k = s.sums w j l ∙ ap₂ ◌+◌ (ap₂ ◌+◌ (p.bits w j l k) (q.bits w j l k)) (h.bits w j l k)

  low_digit : (w j : ℕ) → w < block_segments → j < word_bits
      → bit_at (get_or digits w 0) j ≡ digit_of c (f w j) (g w j) i
  low_digit w j l k = omega (arith, bit-lt (get_or digits w 0) j, added w j l k)

  next-carry : (w j : ℕ) → w < block_segments → j < word_bits
      → bit_at (get_or carries w 0) j ≡ added_at c (f w j) (g w j) i / 2
  next-carry w j l k = omega (arith, bit-lt (get_or digits w 0) j, added w j l k)

  -- so the carries go on
  pub carrying-more : Carrying c f g (i + 1) carries
  unfolding carry_into
  carrying-more = record {
    bits = λ w j l k.
        subst (λ (m : ℕ). bit_at (get_or carries w 0) j ≡ carry_into c (f w j) (g w j) m) (sym (add-one i))
        (next-carry w j l k);
  }

-- ---- the rows of two blocks

module _ (x y : List ℕ) where
  abbrev pub SumCarry : (i : ℕ) (carry : List ℕ) → Type 0
  SumCarry = Carrying 0 (digits_at x) (digits_at y)

  abbrev pub DifferenceCarry : (i : ℕ) (carry : List ℕ) → Type 0
  DifferenceCarry = Carrying 1 (digits_at x) (λ w j. flip (digits_at y w j))

  module _ {a b carry digits carries : List ℕ} {i : ℕ} where
    -- the digits are those of the sums
    pub digits-summed : SumCarry i carry → HasDigit (digits_at x) i a → HasDigit (digits_at y) i b
        → Added block_segments a b carry digits carries
        → (n w j : ℕ) → i < n → w < block_segments → j < word_bits
        → is_set (get_or digits w 0) j ≡ is_set (pair_value Sum n (number_at x n w j) (number_at y n w j)) i
    unfolding is_set pair_value number_at
    digits-summed h p q s n w j l m k =
        let X : ℕ = weighed (digits_at x w j) n in
        let Y : ℕ = weighed (digits_at y w j) n in
        let e : X + Y ≡ X + Y + 0 = omega arith in
        ap (λ (v : ℕ). eqb v 1)
        (low_digit h p q s w j m k
        ∙ sym (ap (λ (v : ℕ). bit_at v i) e ∙ sum-digit 0 (digits_at x w j) (digits_at y w j) n i l))

    -- or of the differences
    pub digits-subtracted : DifferenceCarry i carry → HasDigit (digits_at x) i a
        → HasDigit (λ w j. flip (digits_at y w j)) i b → Added block_segments a b carry digits carries
        → (n w j : ℕ) → i < n → w < block_segments → j < word_bits
        → is_set (get_or digits w 0) j ≡ is_set (pair_value Difference n (number_at x n w j) (number_at y n w j)) i
    unfolding is_set pair_value number_at
    digits-subtracted h p q s n w j l m k =
        ap (λ (v : ℕ). eqb v 1)
        (low_digit h p q s w j m k
        ∙ sym (difference-digit (digits_at x w j) (digits_at y w j) (digits-bits x w j) (digits-bits y w j) n i l))

  -- the carries of a sum, or of a difference
  abbrev pub RowCarry : (flip : Bool) (i : ℕ) (carry : List ℕ) → Type 0
  RowCarry flip = Carrying (bit flip) (digits_at x) (λ w j. turned flip (digits_at y w j))

  pub digits-paired : (flip : Bool) {a b carry digits carries : List ℕ} {i : ℕ} → RowCarry flip i carry → HasDigit (digits_at x) i a
      → HasDigit (λ w j. turned flip (digits_at y w j)) i b → Added block_segments a b carry digits carries
      → (n w j : ℕ) → i < n → w < block_segments → j < word_bits
      → is_set (get_or digits w 0) j ≡ is_set (pair_value (cond flip Difference Sum) n (number_at x n w j) (number_at y n w j)) i
  unfolding bit
  digits-paired true h p q s n w j l m k = digits-subtracted h p q s n w j l m k
  digits-paired false h p q s n w j l m k = digits-summed h p q s n w j l m k

  -- and the last carries tell where x is no less
  pub last-carries : (flip : Bool) {n : ℕ} {carry : List ℕ} → RowCarry flip n carry → flip ≡ true → NotLess x y n carry
  unfolding bit is_set number_at
  last-carries false h e = absurd (false≢true e)
  last-carries true {n} {carry} h e = record {
    bits = λ w j l k.
        ap (λ (v : ℕ). eqb v 1) (h.bits w j l k)
        ∙ last_says (digits_at x w j) (digits_at y w j) (digits-bits x w j) (digits-bits y w j) n;
  }
