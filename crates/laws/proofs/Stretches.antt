-- The stretches of some bodies are at most their words, in either format.
-- Assumes nothing.
use Prim.Native.Nat.{ℕ, zero, suc, ◌+◌, ◌≤◌, ◌<◌}
use mathlib.Core.Bool.{Bool, true, false, ◌||◌}
use mathlib.Core.Path.{◌≡◌, refl, ap, ◌∙◌}
use mathlib.Core.List.{List, [], ◌∷◌}
use lib.Dec.{eqb}
use lib.ListN.{length}
use native.Mathlib.Omega.{arith}
use native.Mathlib.Decide.{dec_le}
use borrow.Author.Tests.{ne_eqb}
use Rattle.meaning.specs.Rows.{bit, sum_below, count_below}
use Rattle.meaning.specs.Segment.{segment_count}
use Rattle.meaning.specs.Piece.{Piece, run_then, piece_size}
use Rattle.meaning.specs.Ewah.{pieces, value_of, clean_of, dirty_of}
use Rattle.meaning.specs.Wah.{wah_pieces}
use Rattle.meaning.specs.Format.{width, pieces_of}
use Rattle.meaning.specs.declared.Format.{Format}
use Rattle.meaning.specs.declared.Format.TheVariants.{Ewah, Wah}
use Rattle.meaning.specs.Question.{is_in, ends_from, ends_at, stretches, total_words}
use Rattle.laws.proofs.RowWords.{bit_le}
use Rattle.laws.proofs.Counted.{count_none}

-- ---- counting

or-bits : (a b : Bool) → bit (a || b) ≤ bit a + bit b
unfolding bit
or-bits true b = omega arith
or-bits false b = omega arith

-- numbers that pass one of two tests
pub count-or : (n : ℕ) (p q : ℕ → Bool) → count_below n (λ e. p e || q e) ≤ count_below n p + count_below n q
unfolding count_below sum_below bit
count-or zero p q = omega arith
count-or (suc n) p q = omega (arith, count-or n p q, or-bits (p n) (q n))

-- and one less where a number passes both
pub count-both : (n m : ℕ) (p q : ℕ → Bool) → m < n → p m ≡ true → q m ≡ true
    → count_below n (λ e. p e || q e) + 1 ≤ count_below n p + count_below n q
unfolding count_below sum_below bit
count-both zero m p q h hp hq = absurd (omega arith)
count-both (suc n) m p q h hp hq = elim (dec_le (suc m) n) [
  | yes g ↦ omega (arith, count-both n m p q g hp hq, or-bits (p n) (q n))
  | no g ↦
      let e : n ≡ m = omega arith in
      let yes-p : bit (p n) ≡ 1 = ap (λ (k : ℕ). bit (p k)) e ∙ ap bit hp in
      let yes-q : bit (q n) ≡ 1 = ap (λ (k : ℕ). bit (q k)) e ∙ ap bit hq in
      omega (arith, count-or n p q, bit_le (p n || q n))
]

-- at most one number is x
pub count-one : (n x : ℕ) → count_below n (λ e. eqb x (suc e)) ≤ 1
unfolding count_below sum_below
count-one zero x = omega arith
count-one (suc n) x = elim (dec_le x n) [
  | yes h ↦ rw (ne_eqb x (suc n) (omega arith)) (unfold bit in omega (arith, count-one n x))
  | no h ↦
      let none = count_none n (λ e. eqb x (suc e)) (λ e g. ne_eqb x (suc e) (omega arith)) in
      omega (arith, none, bit_le (eqb x (suc n)))
]

-- and at most as many are in a list as it has
count-in : (n : ℕ) (xs : List ℕ) → count_below n (λ e. is_in xs (suc e)) ≤ length xs
unfolding is_in
count-in n [] = omega (arith, count_none n (λ e. false) (λ e h. refl))
count-in n (x ∷ xs) =
    omega (arith, count-or n (λ e. eqb x (suc e)) (λ e. is_in xs (suc e)), count-one n x, count-in n xs)

-- ---- pieces

-- each piece has one end
length-ends : (at : ℕ) (ps : List Piece) → length (ends_from at ps) ≡ length ps
unfolding ends_from
length-ends at [] = refl
length-ends at (p ∷ ps) = ap suc (length-ends (at + piece_size p) ps)

-- a clean run is one piece at most
run-one : (v n : ℕ) (ps : List Piece) → length (run_then v n ps) ≤ suc (length ps)
unfolding run_then
run-one v zero ps = omega arith
run-one v (suc n) ps = omega arith

-- a marker gives one piece at most, a dirty word one
ewah-le : (due : ℕ) (b : List ℕ) → length (pieces due b) ≤ length b
unfolding pieces
ewah-le due [] = omega arith
ewah-le zero (m ∷ ws) = omega (arith, run-one (value_of m) (clean_of m) (pieces (dirty_of m) ws), ewah-le (dirty_of m) ws)
ewah-le (suc due) (w ∷ ws) = omega (arith, ewah-le due ws)

-- each word of WAH gives one
wah-le : (b : List ℕ) → length (wah_pieces b) ≤ length b
unfolding wah_pieces
wah-le [] = omega arith
wah-le (x ∷ xs) = omega (arith, wah-le xs)

-- a body has no more pieces than words
pieces-le : (F : Format) (b : List ℕ) → length (pieces_of F b) ≤ length b
pieces-le Ewah b = ewah-le 0 b
pieces-le Wah b = wah-le b

-- so at most as many of n segments are the last of one of its pieces
pub ends-le : (F : Format) (b : List ℕ) (n : ℕ)
    → count_below n (λ i. is_in (ends_from 0 (pieces_of F b)) (suc i)) ≤ length b
ends-le F b n = omega (arith, count-in n (ends_from 0 (pieces_of F b)), length-ends 0 (pieces_of F b), pieces-le F b)

-- and there are at most as many stretches as words
pub stretches-le : (F : Format) (R : ℕ) (bodies : List (List ℕ)) → stretches F R bodies ≤ total_words bodies
unfolding stretches ends_at total_words
stretches-le F R [] = omega (arith, count_none (segment_count (width F) R) (λ e. false) (λ e h. refl))
stretches-le F R (b ∷ bs) =
    omega (
      arith,
      count-or (segment_count (width F) R) (λ i. is_in (ends_from 0 (pieces_of F b)) (suc i)) (ends_at F bs),
      ends-le F b (segment_count (width F) R),
      stretches-le F R bs,
    )
