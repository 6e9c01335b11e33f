-- What is asked, as sets of rows and numbers. No index, refusal or buffer is known here.
-- Sections "The work" (logical questions) and "Questions over a list" of paper 01.
-- Assumes nothing.
use Rattle.std.specs.Prelude.{ℕ, suc, ◌+◌, Bool, false, not, ◌&&◌, ◌||◌, List, [], ◌∷◌, eqb, leb, length, get_or}
use Rattle.std.proofs.Math.Bool.{xor}
use Rattle.meaning.specs.Limits.{histogram_counts}
use Rattle.meaning.specs.Rows.{bit, count_below}
use Rattle.meaning.specs.Segment.{tabulate, segment_count}
use Rattle.meaning.specs.Piece.{Piece, piece_size}
use Rattle.meaning.specs.Format.{width, pieces_of}
use Rattle.meaning.specs.declared.Format.{Format}

-- ---- two sets, or one

-- AND
unfoldable pub intersection : (ℕ → Bool) → (ℕ → Bool) → ℕ → Bool
intersection p q r = p r && q r

-- OR
unfoldable pub union : (ℕ → Bool) → (ℕ → Bool) → ℕ → Bool
union p q r = p r || q r

-- XOR
unfoldable pub symmetric_difference : (ℕ → Bool) → (ℕ → Bool) → ℕ → Bool
unfolding xor
symmetric_difference p q r = xor (p r) (q r)

-- ANDNOT: in the first and not in the second
unfoldable pub difference : (ℕ → Bool) → (ℕ → Bool) → ℕ → Bool
difference p q r = p r && not (q r)

-- NOT
unfoldable pub complement : (ℕ → Bool) → ℕ → Bool
complement p r = not (p r)

-- ---- a list of sets

-- how many of the list have row r; a set that stands in it twice counts twice
unfoldable pub held : List (ℕ → Bool) → ℕ → ℕ
unfolding bit
held [] r = 0
held (p ∷ ps) r = bit (p r) + held ps r

-- threshold: T or more of the list have row r
unfoldable pub at_least : (T : ℕ) → List (ℕ → Bool) → ℕ → Bool
unfolding held
at_least T ps r = leb T (held ps r)

-- symmetric: the table's entry at the number that have row r, which may be 0, is 1
unfoldable pub by_table : List ℕ → List (ℕ → Bool) → ℕ → Bool
unfolding held
by_table table ps r = eqb (get_or table (held ps r) 0) 1

-- histogram (paper 01: tally): for each c from 0 to the most, how many of R rows exactly c of the list have
unfoldable pub histogram_of : (R : ℕ) → List (ℕ → Bool) → List ℕ
unfolding tabulate count_below held
histogram_of R ps = tabulate histogram_counts (λ c. count_below R (λ r. eqb (held ps r) c))

-- the sum of a list
unfoldable pub sum_of : List ℕ → ℕ
sum_of [] = 0
sum_of (x ∷ xs) = x + sum_of xs

-- ---- stretches

-- a list has the number
unfoldable pub is_in : List ℕ → ℕ → Bool
is_in [] e = false
is_in (x ∷ xs) e = eqb x e || is_in xs e

-- of each piece the number of segments up to its end, where `before` segments come before the first
unfoldable pub ends_from : (before : ℕ) → List Piece → List ℕ
unfolding piece_size
ends_from before [] = []
ends_from before (p ∷ ps) = (before + piece_size p) ∷ ends_from (before + piece_size p) ps

-- segment i is the last of some piece of some body
unfoldable pub ends_at : Format → List (List ℕ) → (i : ℕ) → Bool
unfolding is_in ends_from
ends_at F [] i = false
ends_at F (b ∷ bs) i = is_in (ends_from 0 (pieces_of F b)) (suc i) || ends_at F bs i

-- how many segments of R rows are the last of some piece
unfoldable pub stretches : Format → (R : ℕ) → List (List ℕ) → ℕ
unfolding count_below segment_count ends_at
stretches F R bodies = count_below (segment_count (width F) R) (ends_at F bodies)

-- the words of the bodies, each as often as it stands in the list
unfoldable pub total_words : List (List ℕ) → ℕ
total_words [] = 0
total_words (b ∷ bs) = length b + total_words bs
