-- One digit more of the comparison with a pivot: what the words say of the rows, bit by bit.
-- Assumes nothing.
use Prim.Native.Nat.{ℕ, zero, suc, ◌+◌, ◌*◌, ◌/◌, ◌^◌, ◌<◌}
use mathlib.Core.Bool.{Bool, true, false, not, ◌&&◌, ◌||◌, xor}
use mathlib.Core.Path.{◌≡◌, refl, sym, ap, ap₂, ◌∙◌}
use mathlib.Core.List.{List}
use lib.Bits.{bit_and, bit_or, bit_xor, and_mask}
use lib.Dec.{eqb}
use lib.ListN.{get_or, replicate, get_or-replicate}
use native.Mathlib.Nat.{div-eq_of_lt}
use native.Mathlib.Omega.{arith}
use Rattle.meaning.specs.Limits.{word_bits, block_segments}
use Rattle.meaning.specs.Segment.{bit_at, is_set}
use Rattle.column_meaning.specs.Ranking.{ahead}
use Rattle.meaning.specs.declared.Ranking.{Ranking}
use Rattle.meaning.specs.declared.Ranking.TheVariants.{Largest, Smallest}
use Rattle.laws.specs.Pivot.{lead}
use Rattle.laws.proofs.Tests.{and_assoc, and_yes, and_no}
use Rattle.laws.proofs.Counting.{zero_clear}
use Rattle.laws.proofs.Ranking.{ahead-self}
use Rattle.laws.proofs.Pivoting.{ahead-digit, eqb-digit, halves}
use Rattle.words.proofs.BitLaws.{bit-lt, and_set, or_set, xor-set}
use Rattle.words.proofs.Entries.{Filled}
use Rattle.words.specs.Sums.{PartOf}
use Rattle.adder.specs.Digits.{number_at}
use Rattle.adder.proofs.Adding.{digits_at, digits-bits, digit-of, low-digits}
use Rattle.pivots.specs.Splits.{Refined}

-- ---- one word

-- the rows of h whose digit in x is the one that `flip` goes by
abbrev pub same_word : (h x flip : ℕ) → ℕ
same_word h x flip = bit_and h (bit_xor x flip)

-- the rows of a, and those that h has lost, if `gain` has them
abbrev pub ahead_word : (a h s gain : ℕ) → ℕ
ahead_word a h s gain = bit_or a (bit_and (bit_xor h s) gain)

-- a bit that is flipped unless the digit is 1 says whether it is the digit
flip-says : (b digit : ℕ) → b < 2 → digit < 2 → xor (eqb b 1) (eqb digit 0) ≡ eqb b digit
unfolding xor
flip-says zero zero h l = refl
flip-says zero (suc zero) h l = refl
flip-says (suc zero) zero h l = refl
flip-says (suc zero) (suc zero) h l = refl
flip-says zero (suc (suc d)) h l = absurd (omega arith)
flip-says (suc zero) (suc (suc d)) h l = absurd (omega arith)
flip-says (suc (suc b)) d h l = absurd (omega arith)

module _ (h x flip digit j : ℕ) (l : digit < 2) (f : is_set flip j ≡ eqb digit 0) where
  pub same_set : is_set (same_word h x flip) j ≡ is_set h j && eqb (bit_at x j) digit
  unfolding is_set
  same_set =
      and_set h (bit_xor x flip) j
      ∙ ap (λ (t : Bool). is_set h j && t)
      (xor-set x flip j ∙ ap (xor (is_set x j)) f ∙ flip-says (bit_at x j) digit (bit-lt x j) l)

lost : (h e g : Bool) → xor h (h && e) && g ≡ h && not e && g
unfolding xor
lost true true g = refl
lost true false g = refl
lost false e g = refl

module _ (a h s gain j : ℕ) (e g : Bool) (hs : is_set s j ≡ is_set h j && e) (hg : is_set gain j ≡ g) where
  pub ahead-set : is_set (ahead_word a h s gain) j ≡ is_set a j || (is_set h j && not e && g)
  ahead-set =
      or_set a (bit_and (bit_xor h s) gain) j
      ∙ ap (λ (t : Bool). is_set a j || t)
      (and_set (bit_xor h s) gain j
      ∙ ap₂ (λ (p q : Bool). p && q) (xor-set h s j ∙ ap (xor (is_set h j)) hs) hg
      ∙ lost (is_set h j) e g)

-- ---- a row of words

-- word w of the rows that still agree, and of those that are ahead now
abbrev pub same_at : (agreed x : List ℕ) (flip w : ℕ) → ℕ
same_at agreed x flip w = same_word (get_or agreed w 0) (get_or x w 0) flip

abbrev pub ahead_at : (before agreed x : List ℕ) (flip gain w : ℕ) → ℕ
ahead_at before agreed x flip gain w = ahead_word (get_or before w 0) (get_or agreed w 0) (same_at agreed x flip w) gain

-- all words of both
pub refined-all : {digit first : ℕ} (flip gain : ℕ) {a s x was a' s' : List ℕ} → digit < 2
    → ((j : ℕ) → j < word_bits → is_set flip j ≡ eqb digit 0) → ((j : ℕ) → j < word_bits → is_set gain j ≡ not (eqb digit first))
    → Filled (ahead_at a s x flip gain) was a' block_segments → Filled (same_at s x flip) was s' block_segments
    → Refined digit first a s x a' s'
refined-all {digit} {first} flip gain {a} {s} {x} l f g p q = record {
  ahead-bits = λ w j lw lj.
      ap (λ (v : ℕ). is_set v j) (p.done w lw)
      ∙ ahead-set (get_or a w 0) (get_or s w 0) (same_at s x flip w) gain j (eqb (bit_at (get_or x w 0) j) digit)
      (not (eqb digit first)) (same w j lj) (g j lj);
  same_bits = λ w j lw lj. ap (λ (v : ℕ). is_set v j) (q.done w lw) ∙ same w j lj;
}
  where
    same : (w j : ℕ) → j < word_bits
        → is_set (same_at s x flip w) j ≡ is_set (get_or s w 0) j && eqb (bit_at (get_or x w 0) j) digit
    same w j lj = same_set (get_or s w 0) (get_or x w 0) flip digit j l (f j lj)

-- word w of the rows that are taken
abbrev pub taken_word : (keep : ℕ) (ahead same : List ℕ) (w : ℕ) → ℕ
taken_word keep ahead same w = bit_or (get_or ahead w 0) (bit_and (get_or same w 0) keep)

pub taken-set : (a s keep j : ℕ) → is_set (bit_or a (bit_and s keep)) j ≡ is_set a j || (is_set s j && is_set keep j)
taken-set a s keep j = or_set a (bit_and s keep) j ∙ ap (λ (t : Bool). is_set a j || t) (and_set s keep j)

-- ---- all digits from place i on

-- of the rows of the block x the words a have those that exist and come before the pivot by these digits, s those that have its own
pub record SplitFrom (op : Ranking) (x : List ℕ) (n pivot i : ℕ) (a s : List ℕ) : Type 0 where
  pub ahead-bits : (w j : ℕ) → w < block_segments → j < word_bits
      → is_set (get_or a w 0) j ≡ is_set (get_or x w 0) j && ahead op (number_at x n w j / 2 ^ i) (pivot / 2 ^ i)
  pub same_bits : (w j : ℕ) → w < block_segments → j < word_bits
      → is_set (get_or s w 0) j ≡ is_set (get_or x w 0) j && eqb (number_at x n w j / 2 ^ i) (pivot / 2 ^ i)

-- a number's digits from place i on: those above, and digit i
by-digit : (v i : ℕ) → v / 2 ^ i ≡ 2 * (v / 2 ^ suc i) + bit_at v i
unfolding bit_at
by-digit v i = halves v i

-- the digit as it is taken out of a number
pub digit-is : (v i : ℕ) → bit_and (v / 2 ^ i) 1 ≡ bit_at v i
unfolding bit_at
digit-is v i = and_mask (v / 2 ^ i) 1

number-low : (x : List ℕ) (n w j : ℕ) → number_at x n w j < 2 ^ n
unfolding number_at
number-low x n w j = low-digits (digits_at x w j) (digits-bits x w j) n

number-digit : (x : List ℕ) (n w j i : ℕ) → i < n → bit_at (number_at x n w j) i ≡ digits_at x w j i
unfolding number_at
number-digit x n w j i l =
    ap (λ (v : ℕ). bit_at v i) (omega arith) ∙ digit-of (digits_at x w j) (digits-bits x w j) n 0 i l

-- a digit comes before another if it is another, and that is not the first
digit-ahead : (op : Ranking) (b d : ℕ) → b < 2 → d < 2 → ahead op b d ≡ not (eqb b d) && not (eqb d (lead op))
unfolding ahead
digit-ahead Largest zero zero h l = refl
digit-ahead Largest zero (suc zero) h l = refl
digit-ahead Largest (suc zero) zero h l = refl
digit-ahead Largest (suc zero) (suc zero) h l = refl
digit-ahead Smallest zero zero h l = refl
digit-ahead Smallest zero (suc zero) h l = refl
digit-ahead Smallest (suc zero) zero h l = refl
digit-ahead Smallest (suc zero) (suc zero) h l = refl
digit-ahead op zero (suc (suc d)) h l = absurd (omega arith)
digit-ahead op (suc zero) (suc (suc d)) h l = absurd (omega arith)
digit-ahead op (suc (suc b)) d h l = absurd (omega arith)

-- no digit yet: nothing is ahead, and all that exists agrees
pub split-none : (op : Ranking) (x : List ℕ) (n pivot : ℕ) (s : List ℕ) → pivot < 2 ^ n → PartOf block_segments x 0 s
    → SplitFrom op x n pivot n (replicate block_segments 0) s
split-none op x n pivot s h p = record {
  ahead-bits = λ w j l k.
      rw (get_or-replicate {A = ℕ} block_segments w 0 0 l, zero_clear j, none n (number-low x n w j), none n h, ahead-self op 0)
      (sym (and_no (is_set (get_or x w 0) j)));
  same_bits = λ w j l k.
      let e : 0 + w ≡ w = omega arith in
      rw (none n (number-low x n w j), none n h)
      (ap (λ (v : ℕ). is_set v j) (p.words w l ∙ ap (λ (i : ℕ). get_or x i 0) e) ∙ sym (and_yes (is_set (get_or x w 0) j)));
}
  where
    none : {v : ℕ} (n : ℕ) → v < 2 ^ n → v / 2 ^ n ≡ 0
    none n l = div-eq_of_lt l

module _ {op : Ranking} {x : List ℕ} {n pivot i : ℕ} {a s r a' s' : List ℕ} {digit first : ℕ}
    (g : SplitFrom op x n pivot (suc i) a s) (l : i < n) (d : digit ≡ bit_at pivot i)
    (p : PartOf block_segments x ((i + 1) * block_segments) r) (leads : lead op ≡ first)
    (f : Refined digit first a s r a' s') where
  -- both numbers by their digits above and digit i
  module _ (w j : ℕ) (lw : w < block_segments) (lj : j < word_bits) where
    abbrev N : ℕ
    N = number_at x n w j

    own : bit_at (get_or r w 0) j ≡ bit_at N i
    own = ap (λ (v : ℕ). bit_at v j) (p.words w lw) ∙ sym (number-digit x n w j i l)

    same-is : is_set (get_or s' w 0) j ≡ is_set (get_or x w 0) j && eqb (N / 2 ^ i) (pivot / 2 ^ i)
    same-is =
        f.same_bits w j lw lj
        ∙ ap₂ (λ (t u : Bool). t && u) (g.same_bits w j lw lj) (ap₂ eqb own d)
        ∙ and_assoc (is_set (get_or x w 0) j) _ _
        ∙ ap (λ (t : Bool). is_set (get_or x w 0) j && t)
        (sym (ap₂ eqb (by-digit N i) (by-digit pivot i)
        ∙ eqb-digit (N / 2 ^ suc i) (bit_at N i) (pivot / 2 ^ suc i) (bit_at pivot i) (bit-lt N i) (bit-lt pivot i)))

    ahead-is : is_set (get_or a' w 0) j ≡ is_set (get_or x w 0) j && ahead op (N / 2 ^ i) (pivot / 2 ^ i)
    ahead-is =
        f.ahead-bits w j lw lj
        ∙ ap₂ (λ (t u : Bool). t || u) (g.ahead-bits w j lw lj)
        (ap₂ (λ (t u : Bool). t && u)
        (ap₂ (λ (t u : Bool). t && u) (g.same_bits w j lw lj) (ap not (ap₂ eqb own d)))
        (ap₂ (λ (v u : ℕ). not (eqb v u)) d (sym leads)))
        ∙ gather (is_set (get_or x w 0) j) _ _ _ _
        ∙ ap (λ (t : Bool). is_set (get_or x w 0) j && t)
        (ap (λ (t : Bool). ahead op (N / 2 ^ suc i) (pivot / 2 ^ suc i) || (eqb (N / 2 ^ suc i) (pivot / 2 ^ suc i) && t))
        (sym (digit-ahead op (bit_at N i) (bit_at pivot i) (bit-lt N i) (bit-lt pivot i)))
        ∙ sym (ap₂ (ahead op) (by-digit N i) (by-digit pivot i)
        ∙ ahead-digit op (N / 2 ^ suc i) (bit_at N i) (pivot / 2 ^ suc i) (bit_at pivot i) (bit-lt N i) (bit-lt pivot i)))
      where
        gather : (e b q u v : Bool) → (e && b) || ((e && q) && u && v) ≡ e && (b || (q && (u && v)))
        gather true b true u v = refl
        gather true b false u v = refl
        gather false b q u v = refl

  pub split-more : SplitFrom op x n pivot i a' s'
  split-more = record { ahead-bits = ahead-is; same_bits = same-is }

div-one : (v : ℕ) → v / 2 ^ 0 ≡ v
div-one v = omega arith
