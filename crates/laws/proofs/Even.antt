-- Segments whose rows are all set or all clear, for any width w: they are clean, the last one too.
-- Assumes nothing.
use Prim.Native.Nat.{ℕ, zero, suc, ◌+◌, ◌-◌, ◌*◌, ◌^◌, ◌≤◌, ◌<◌}
use mathlib.Core.Bool.{Bool, true, false, ◌&&◌}
use mathlib.Core.Path.{◌≡◌, ap, ◌∙◌}
use lib.Dec.{ltb, leb-suc-suc}
use lib.ListN.{get_or}
use lib.Pow.{pow_pos}
use native.Mathlib.Nat.{zero-mul, one-mul}
use native.Mathlib.Omega.{arith}
use borrow.Author.Tests.{lt-ltb, le-ltb}
use Rattle.meaning.specs.Rows.{bit}
use Rattle.meaning.specs.Segment.{clean, kind, kinds, rows_in, is_set, word_of, fill, all_set, segment_count, from_rows}
use Rattle.laws.proofs.Segments.{kind-fill}
use Rattle.laws.proofs.RowWords.{bit_le, word-ext, word-short, from-length, get_d_tabulate}
use Rattle.laws.proofs.Cut.{kinds-at, rows-some, rows-le, rows-bit}
use Rattle.laws.proofs.Counting.{zero_clear, full-set}

-- each bit of a clean segment's word is its value
pub bit-fill : (w v j : ℕ) → v < 2 → j < w → bit (is_set (fill w v) j) ≡ v
unfolding fill all_set bit
bit-fill w zero j h l = rw (zero-mul (2 ^ w - 1), zero_clear j)
bit-fill w (suc zero) j h l = rw (one-mul (2 ^ w - 1), full-set w j l)
bit-fill w (suc (suc v)) j h l = absurd (omega arith)

-- the word of n bits of which the first k are t and the others clear
even-word : (n k : ℕ) (t : Bool) → k ≤ n → word_of n (λ j. ltb j k && t) ≡ fill k (bit t)
unfolding word_of fill all_set bit
even-word n zero t h =
    let none : word_of n (λ j. ltb j 0 && t) < 1 =
    word-short n 0 (λ j. ltb j 0 && t) (λ j g. rw (le-ltb j 0 (omega arith))) in
    omega arith
even-word zero (suc k) t h = absurd (omega arith)
even-word (suc n) (suc k) t h =
    rw (lt-ltb 0 (suc k) (omega arith), rest, even-word n k t (omega arith)) (go t)
  where
    rest : word_of n (λ j. ltb (suc j) (suc k) && t) ≡ word_of n (λ j. ltb j k && t)
    rest =
        word-ext n (λ j. ltb (suc j) (suc k) && t) (λ j. ltb j k && t)
        (λ j g. ap (λ (s : Bool). s && t) (leb-suc-suc (suc j) k))

    go : (t : Bool) → bit t + 2 * (bit t * (2 ^ k - 1)) ≡ bit t * (2 ^ suc k - 1)
    go true = omega (arith, pow_pos k)
    go false = omega arith

-- a segment each of whose rows is in the set or not, as t says, is clean
pub even-clean : (w : ℕ) → 0 < w → (R : ℕ) (q : ℕ → Bool) (i : ℕ) (t : Bool) → i < segment_count w R
    → ((j : ℕ) → j < w → q (i * w + j) ≡ t) → get_or (kinds w R (from_rows w R q)) i (clean 0) ≡ clean (bit t)
unfolding from_rows
even-clean w pos R q i t h e =
    kinds-at w pos R (from_rows w R q) i (clean 0) (from-length w pos R q) h
    ∙ ap (kind real) (get_d_tabulate (segment_count w R) cell i h ∙ word-ext w own even same)
    ∙ ap (kind real) (even-word w real t (rows-le w pos R i))
    ∙ kind-fill real (bit t) (rows-some w pos R i h) (omega (arith, bit_le t))
  where
    real : ℕ
    real = rows_in w R i

    cell : ℕ → ℕ
    cell i = word_of w (λ j. ltb (i * w + j) R && q (i * w + j))

    own : ℕ → Bool
    own j = ltb (i * w + j) R && q (i * w + j)

    even : ℕ → Bool
    even j = ltb j real && t

    same : (j : ℕ) → j < w → own j ≡ even j
    same j g = rw (e j g, rows-bit w pos R i j g)
