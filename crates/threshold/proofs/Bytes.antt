-- Bytes as words, four by four.
-- Assumes nothing.
use Prim.Native.Nat.{ℕ, zero, suc, ◌+◌, ◌*◌, ◌<◌}
use mathlib.Core.Path.{◌≡◌, refl, sym, ap, ◌∙◌}
use mathlib.Core.List.{List, [], ◌∷◌}
use native.Mathlib.Omega.{arith}
use lib.ListN.{length, get_or, set}
use borrow.Author.Count.{below_more}
use lib.Seq.{ext_get_or, get_or-set_same, get_or-set_other}
use Rattle.std.specs.Int.{from_le_bytes, w32}
use Rattle.std.specs.Simd.{first_chunks}
use Rattle.threshold.specs.Output.{words_of}

pub words_count : (n : ℕ) (b : List ℕ) → length b ≡ 4 * n → length (words_of b) ≡ n
unfolding words_of
words_count zero [] h = refl
words_count zero (x ∷ b) h = absurd (omega arith)
words_count (suc n) [] h = absurd (omega arith)
words_count (suc n) (x ∷ []) h = absurd (omega arith)
words_count (suc n) (x ∷ y ∷ []) h = absurd (omega arith)
words_count (suc n) (x ∷ y ∷ z ∷ []) h = absurd (omega arith)
words_count (suc n) (x ∷ y ∷ z ∷ u ∷ b) h = ap suc (words_count n b (omega arith))

word-is : (n i : ℕ) (b : List ℕ) → length b ≡ 4 * n → i < n → get_or (words_of b) i 0 ≡ from_le_bytes w32 (get_or (first_chunks 4 n b) i [])
unfolding words_of
word-is zero i b h l = absurd (omega arith)
word-is (suc n) i [] h l = absurd (omega arith)
word-is (suc n) i (x ∷ []) h l = absurd (omega arith)
word-is (suc n) i (x ∷ y ∷ []) h l = absurd (omega arith)
word-is (suc n) i (x ∷ y ∷ z ∷ []) h l = absurd (omega arith)
word-is (suc n) zero (x ∷ y ∷ z ∷ u ∷ b) h l = omega arith
word-is (suc n) (suc i) (x ∷ y ∷ z ∷ u ∷ b) h l = word-is n i b (omega arith) (omega arith)

-- one word more
pub words_more : (fours : List (List ℕ)) (out : List ℕ) (i x : ℕ) → i < length out → x ≡ from_le_bytes w32 (get_or fours i [])
    → ((k : ℕ) → k < i → get_or out k 0 ≡ from_le_bytes w32 (get_or fours k []))
    → (k : ℕ) → k < i + 1 → get_or (set out i x) k 0 ≡ from_le_bytes w32 (get_or fours k [])
words_more fours out i x h e all =
    below_more (λ k. get_or (set out i x) k 0 ≡ from_le_bytes w32 (get_or fours k [])) i
    (λ k l. get_or-set_other out i k x 0 (λ q. omega arith) ∙ all k l) (get_or-set_same out i x 0 h ∙ e)

-- words that are each the word of their four bytes
pub words_are : (fours : List (List ℕ)) (out b : List ℕ) (n : ℕ) → length b ≡ 4 * n → length out ≡ n → fours ≡ first_chunks 4 n b
    → ((k : ℕ) → k < n → get_or out k 0 ≡ from_le_bytes w32 (get_or fours k [])) → out ≡ words_of b
words_are fours out b n h l e all =
    ext_get_or 0 out (words_of b) (omega (arith, words_count n b h, l))
    (λ i m. all i (omega arith) ∙ (rw e (sym (word-is n i b h (omega arith)))))
