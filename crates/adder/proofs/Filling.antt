-- A block filled row by row: what exists, and then the digits of an operation, whichever it is.
-- Assumes nothing.
use Prim.Native.Nat.{ℕ, ◌+◌, ◌-◌, ◌*◌, ◌/◌, ◌^◌, ◌≤◌, ◌<◌}
use mathlib.Core.Bool.{Bool, false, cond, ◌&&◌}
use mathlib.Core.Path.{◌≡◌, sym, ap, ap₂, ◌∙◌, subst}
use mathlib.Core.List.{List}
use lib.Bits.{bit_and, and_le_l}
use lib.Dec.{ltb}
use lib.ListN.{length, get_or, set}
use lib.Pow.{pow_mono}
use native.Mathlib.Nat.{zero-add, div-eq_of_lt}
use native.Mathlib.Decide.{dec_le, ℕ_discrete}
use native.Mathlib.Omega.{arith}
use borrow.Author.Tests.{lt-ltb, le-ltb}
use Rattle.meaning.specs.Limits.{word_bits, block_segments, block_words}
use Rattle.meaning.specs.Segment.{bit_at, is_set}
use Rattle.words.proofs.BitLaws.{and_set}
use Rattle.words.proofs.Entries.{Filled, filled-from, filled_more}
use Rattle.adder.specs.Digits.{number_at, Paired}
use Rattle.adder.specs.Blocks.{RowOf, PutBoth, Existing}

-- ---- a row put at a place

module _ (a b : List ℕ) where
  -- the word that is put as word w of the row
  abbrev common : (w : ℕ) → ℕ
  common w = bit_and (get_or a w 0) (get_or b w 0)

  module _ (was : List ℕ) (at : ℕ) where
    -- what the word at i becomes, where the row is put at `at`: below it, what it was
    abbrev pub put_word : (i : ℕ) → ℕ
    put_word i = cond (ltb i at) (get_or was i 0) (common (i - at))

    put-here : (w : ℕ) → put_word (at + w) ≡ common w
    put-here w =
        let e : at + w - at ≡ w = omega arith in
        rw (le-ltb (at + w) at (omega arith), e)

    pub putting-none : Filled put_word was was (at + 0)
    putting-none = filled-from put_word was (at + 0) (λ i l. rw (lt-ltb i at (omega arith)))

    pub putting-more : (z : List ℕ) (w : ℕ) → at + w < length z → Filled put_word was z (at + w)
        → Filled put_word was (set z (at + w) (common w)) (at + (w + 1))
    putting-more z w h f =
        subst (Filled put_word was (set z (at + w) (common w))) (omega arith)
        (filled_more put_word was z (at + w) (common w) h (sym (put-here w)) f)

    pub putting-all : (z : List ℕ) → ((w : ℕ) → w < block_segments → get_or a w 0 < 2 ^ 32)
        → Filled put_word was z (at + block_segments) → PutBoth a b was at z
    putting-all z h f = record {
      long = f.long;
      low = λ w l. rw (here w l) (omega (arith, h w l, and_le_l (get_or a w 0) (get_or b w 0)));
      words = here;
      before = λ i l. f.done i (omega arith) ∙ rw (lt-ltb i at l);
      behind = f.rest;
    }
      where
        here : (w : ℕ) → w < block_segments → get_or z (at + w) 0 ≡ common w
        here w l = f.done (at + w) (omega arith) ∙ put-here w

-- ---- what exists

-- the first row begins at 0
pub at_first : (z : List ℕ) (w : ℕ) → get_or z (0 + w) 0 ≡ get_or z w 0
at_first z w = ap (λ (i : ℕ). get_or z i 0) (zero-add w)

-- the first rows a of x and b of y were put as the first row of z
module _ {x y a b was z : List ℕ} (p : RowOf x 0 a) (q : RowOf y 0 b) (put : PutBoth a b was 0 z) where
  both : (w j : ℕ) → w < block_segments → is_set (get_or z w 0) j ≡ is_set (get_or x w 0) j && is_set (get_or y w 0) j
  both w j l =
      ap (λ (v : ℕ). is_set v j)
      (sym (at_first z w) ∙ put.words w l ∙ ap₂ bit_and (p.words w l ∙ at_first x w) (q.words w l ∙ at_first y w))
      ∙ and_set (get_or x w 0) (get_or y w 0) j

  pub existing : {e : List ℕ} → length was ≡ block_words → RowOf z 0 e → Existing x y z e
  existing h r = record {
    long = put.long ∙ h;
    same = λ w s. sym (r.words w s ∙ at_first z w);
    low = λ w l. rw (← at_first z w) (put.low w l);
    exists = both;
  }

-- ---- and the digits of an operation, row by row

-- digit i of what the operation makes of the two numbers at bit j of word w
abbrev digit_set : (op : (n x y : ℕ) → ℕ) (x y : List ℕ) (n i w j : ℕ) → Bool
digit_set op x y n i w j = is_set (op n (number_at x n w j) (number_at y n w j)) i

-- the rows e exist, and of the operation's n digits the lowest i are there
pub record Filling (op : (n x y : ℕ) → ℕ) (x y e : List ℕ) (n i : ℕ) (z : List ℕ) : Type 0 where
  pub long : length z ≡ block_words
  pub low : (m w : ℕ) → m ≤ i → w < block_segments → get_or z (m * block_segments + w) 0 < 2 ^ 32
  pub same : (w : ℕ) → w < block_segments → get_or z w 0 ≡ get_or e w 0
  pub digits : (m w j : ℕ) → m < i → w < block_segments
      → is_set (get_or z ((m + 1) * block_segments + w) 0) j ≡ is_set (get_or e w 0) j && digit_set op x y n m w j

-- no digit yet
pub filling-none : (op : (n x y : ℕ) → ℕ) (n : ℕ) {x y z e : List ℕ} → Existing x y z e
    → Filling op x y e n 0 z
filling-none op n g = record {
  long = g.long;
  low = λ m w h l. let first : m * block_segments + w ≡ w = omega arith in rw first (g.low w l);
  same = g.same;
  digits = λ m w j h l. absurd (omega arith);
}

-- a word has no bit past its width
pub past-clear : (v j : ℕ) → v < 2 ^ 32 → word_bits ≤ j → is_set v j ≡ false
unfolding is_set bit_at
past-clear v j h l =
    let z : v / 2 ^ j ≡ 0 = div-eq_of_lt (omega (arith, h, pow_mono {i = 32} {j = j} l)) in
    rw z

-- one digit more, where the row put has it in the rows that exist
pub filling-put : {op : (n x y : ℕ) → ℕ} {x y e a b z z' : List ℕ} {n i : ℕ}
    → ((w j : ℕ) → w < block_segments
    → is_set (bit_and (get_or a w 0) (get_or b w 0)) j ≡ is_set (get_or e w 0) j && digit_set op x y n i w j)
    → PutBoth a b z ((i + 1) * block_segments) z' → Filling op x y e n i z → Filling op x y e n (i + 1) z'
filling-put {op} {x} {y} {e} {a} {b} {z} {z'} {n} {i} h put g = record {
  long = put.long ∙ g.long;
  low = low;
  same = λ w l. put.before w (omega arith) ∙ g.same w l;
  digits = digits;
}
  where
    low : (m w : ℕ) → m ≤ i + 1 → w < block_segments → get_or z' (m * block_segments + w) 0 < 2 ^ 32
    low m w s l = elim (ℕ_discrete m (i + 1)) [
      | yes t ↦ rw t (put.low w l)
      | no t ↦ rw (put.before (m * block_segments + w) (omega arith)) (g.low m w (omega arith) l)
    ]

    digits : (m w j : ℕ) → m < i + 1 → w < block_segments
        → is_set (get_or z' ((m + 1) * block_segments + w) 0) j ≡ is_set (get_or e w 0) j && digit_set op x y n m w j
    digits m w j s l = elim (ℕ_discrete m i) [
      | yes t ↦ rw t (ap (λ (v : ℕ). is_set v j) (put.words w l) ∙ h w j l)
      | no t ↦ ap (λ (v : ℕ). is_set v j) (put.before ((m + 1) * block_segments + w) (omega arith))
          ∙ g.digits m w j (omega arith) l
    ]

-- the same, where the row d has the digit at each bit and existence masks it
pub filling-more : {op : (n x y : ℕ) → ℕ} {x y e d z z' : List ℕ} {n i : ℕ}
    → ((w j : ℕ) → w < block_segments → j < word_bits → is_set (get_or d w 0) j ≡ digit_set op x y n i w j)
    → PutBoth e d z ((i + 1) * block_segments) z' → Filling op x y e n i z → Filling op x y e n (i + 1) z'
filling-more {op} {x} {y} {e} {d} {z} {z'} {n} {i} h put g = filling-put masked put g
  where
    e-low : (w : ℕ) → w < block_segments → get_or e w 0 < 2 ^ 32
    e-low w l =
        let first : 0 * block_segments + w ≡ w = omega arith in
        rw (← g.same w l) (rw first at (g.low 0 w (omega arith) l))

    masked : (w j : ℕ) → w < block_segments
        → is_set (bit_and (get_or e w 0) (get_or d w 0)) j ≡ is_set (get_or e w 0) j && digit_set op x y n i w j
    masked w j l = elim (dec_le word_bits j) [
      | yes k ↦
          let clear : is_set (get_or e w 0) j ≡ false = past-clear (get_or e w 0) j (e-low w l) k in
          and_set (get_or e w 0) (get_or d w 0) j ∙ rw clear
      | no k ↦
          and_set (get_or e w 0) (get_or d w 0) j
          ∙ ap (λ (t : Bool). is_set (get_or e w 0) j && t) (h w j l (omega arith))
    ]

-- all n digits
pub filling-all : {op : (n x y : ℕ) → ℕ} {x y e was z : List ℕ} {n : ℕ} → Existing x y was e
    → Filling op x y e n n z → Paired op x y n z
filling-all {op} {x} {y} {e} {was} {z} {n} s g = record {
  long = g.long;
  low = g.low;
  exists = λ w j l. ap (λ (v : ℕ). is_set v j) (g.same w l ∙ sym (s.same w l)) ∙ s.exists w j l;
  digits = λ i w j m l.
      g.digits i w j m l ∙ ap (λ (v : ℕ). is_set v j && digit_set op x y n i w j) (sym (g.same w l));
}
