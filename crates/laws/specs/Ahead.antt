-- Where a walk over the pieces of a body stands, for contracts of the code that merges bodies. No rule of paper 01 is here.
-- Assumes nothing.
use Rattle.std.specs.Prelude.{ℕ, ◌+◌, ◌-◌, ◌*◌, ◌≤◌, ◌<◌, Bool, ◌≡◌, List, [], ◌∷◌, map, drop}
use Rattle.meaning.specs.Rows.{count_below}
use Rattle.meaning.specs.Segment.{Segment, kinds, from_rows, segment_count}
use Rattle.meaning.specs.Piece.{Piece, clean_run, dirty_word, run_then, piece_size, NoneEmpty, flat}
use Rattle.meaning.specs.Ewah.{pieces}
use Rattle.meaning.specs.Wah.{wah_pieces}
use Rattle.meaning.specs.Format.{width, pieces_of, segments_of, rows_of}
use Rattle.meaning.specs.declared.Format.{Format}
use Rattle.meaning.specs.declared.Format.TheVariants.{Ewah, Wah}
use Rattle.meaning.specs.Question.{held, is_in, ends_from, ends_at}

-- the pieces of the rest of a body, of whose last marker `due` dirty words are still to come; WAH has no such number
abbrev pub rest_of : Format → (due : ℕ) → List ℕ → List Piece
rest_of Ewah due ws = pieces due ws
rest_of Wah due ws = wah_pieces ws

-- the pieces without the first n segments of the first one
unfoldable pub advanced : ℕ → List Piece → List Piece
unfolding run_then
advanced n [] = []
advanced n (clean_run v k ∷ ps) = run_then v (k - n) ps
advanced n (dirty_word x ∷ ps) = ps

-- how many segments the first piece covers, 0 where there is none
unfoldable pub first_size : List Piece → ℕ
unfolding piece_size
first_size [] = 0
first_size (p ∷ ps) = piece_size p

module _ (F : Format) where
  -- ps are the pieces of the body b from segment o on, of the first perhaps only the end
  pub record Ahead (b : List ℕ) (o : ℕ) (ps : List Piece) : Type 0 where
    pub some : NoneEmpty ps
    pub rest : flat (width F) ps ≡ drop o (segments_of F b)
    pub ends : (e : ℕ) → o < e → is_in (ends_from 0 (pieces_of F b)) e ≡ is_in (ends_from o ps) e

  -- how many of the bodies have row j of segment i
  unfoldable pub held_at : List (List ℕ) → (i j : ℕ) → ℕ
  unfolding held rows_of
  held_at bodies i j = held (map (rows_of F) bodies) (i * width F + j)

  -- the rows of an answer: a row that c of the bodies have is in it as `f c` says
  unfoldable pub answer_rows : (ℕ → Bool) → List (List ℕ) → ℕ → Bool
  unfolding held rows_of
  answer_rows f bodies r = f (held (map (rows_of F) bodies) r)

  -- and its segments, over R rows
  unfoldable pub answer_segments : (R : ℕ) → (ℕ → Bool) → List (List ℕ) → List Segment
  unfolding kinds from_rows answer_rows
  answer_segments R f bodies = kinds (width F) R (from_rows (width F) R (answer_rows f bodies))

  -- one stretch of n segments from segment o on, over bodies of R rows: `ones` of them are in a run of ones there and `dirty` on a
  -- dirty word, and `extra j` of these words have bit j set. It ends at the first segment at which some piece ends
  pub record StretchAt (R : ℕ) (bodies : List (List ℕ)) (o n ones dirty : ℕ) (extra : ℕ → ℕ) : Type 0 where
    pub some : 1 ≤ n
    pub within : o + n ≤ segment_count (width F) R
    pub clean : dirty ≡ 0 → (i : ℕ) → o ≤ i → i < o + n → (j : ℕ) → j < width F → held_at bodies i j ≡ ones
    pub single : (dirty ≡ 0 → ⊥) → n ≡ 1
    pub mixed : (dirty ≡ 0 → ⊥) → (j : ℕ) → j < width F → held_at bodies o j ≡ ones + extra j
    pub next : count_below (o + n) (ends_at F bodies) ≡ count_below o (ends_at F bodies) + 1
