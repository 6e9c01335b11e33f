-- Pieces: what a body of either format is made of, and the segments of w rows that they spell. Section "A body" of paper 01, request 4.
-- Assumes nothing.
use Rattle.std.specs.Prelude.{ℕ, zero, suc, ◌≤◌, List, [], ◌∷◌, ◌++◌, replicate}
use Rattle.meaning.specs.Segment.{fill}

-- a clean run of n segments of value v (of an EWAH marker, or a WAH fill), or one dirty word (in WAH a literal)
pub data Piece : Type 0 where
  clean_run : (v n : ℕ) → Piece
  dirty_word : (x : ℕ) → Piece

-- a clean run of no segments is no piece
unfoldable pub run_then : (v n : ℕ) → List Piece → List Piece
run_then v zero ps = ps
run_then v (suc n) ps = clean_run v (suc n) ∷ ps

-- how many segments a piece covers
unfoldable pub piece_size : Piece → ℕ
piece_size (clean_run v n) = n
piece_size (dirty_word x) = 1

-- no piece is empty
abbrev pub NoneEmpty : List Piece → Type 0
NoneEmpty [] = Unit {0}
NoneEmpty (p ∷ ps) = (1 ≤ piece_size p) × NoneEmpty ps

-- the word of a piece that is a dirty word, and else 0
unfoldable pub dirty_in : Piece → ℕ
dirty_in (clean_run v n) = 0
dirty_in (dirty_word x) = x

-- the same of the last of many
unfoldable pub last_dirty : List Piece → ℕ
last_dirty [] = 0
last_dirty (clean_run v n ∷ []) = 0
last_dirty (dirty_word x ∷ []) = x
last_dirty (p ∷ q ∷ ps) = last_dirty (q ∷ ps)

-- the segments of w rows that pieces stand for, in order (paper 01: the pieces spell them)
unfoldable pub flat : (w : ℕ) → List Piece → List ℕ
unfolding fill
flat w [] = []
flat w (clean_run v n ∷ ps) = replicate n (fill w v) ++ flat w ps
flat w (dirty_word x ∷ ps) = x ∷ flat w ps
