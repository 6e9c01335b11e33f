-- EWAH bodies of 32-bit words, as they are read: a marker's fields, pieces, the segments and rows of a body, its first fault.
-- Sections "A body" and "Numbers of refusal" of paper 01.
-- Assumes nothing.
use Prim.Native.Nat.{ℕ, zero, suc, ◌+◌, ◌-◌, ◌*◌, ◌/◌, ◌%◌}
use Rattle.std.specs.Prelude.{Bool, ltb, length, replicate}
use mathlib.Core.List.{List, [], ◌∷◌, ◌++◌}
use Rattle.meaning.specs.Segment.{fill, segment_count, over_pad, has_row}
use Rattle.meaning.specs.Piece.{Piece, dirty_word, run_then}
use Rattle.meaning.specs.Refusal.{Verdict, sound, refuse_if}

-- ---- a marker

-- bit 0: the clean value
unfoldable pub value_of : ℕ → ℕ
value_of m = m % 2

-- bits 1 to 16: the clean count
unfoldable pub clean_of : ℕ → ℕ
clean_of m = m / 2 % 65536

-- bits 17 to 31: the dirty count
unfoldable pub dirty_of : ℕ → ℕ
dirty_of m = m / 131072 % 32768

-- the marker with these three fields
unfoldable pub marker : (v c d : ℕ) → ℕ
marker v c d = v + 2 * c + 131072 * d

-- ---- pieces. A body is read word by word; `due` is how many dirty words of the last marker are still to come

-- the pieces of a body: of each marker its clean run, and then its dirty words
unfoldable pub pieces : (due : ℕ) → List ℕ → List Piece
unfolding run_then value_of clean_of dirty_of
pieces due [] = []
pieces zero (m ∷ ws) = run_then (value_of m) (clean_of m) (pieces (dirty_of m) ws)
pieces (suc due) (w ∷ ws) = dirty_word w ∷ pieces due ws

-- the segments that a body's pieces stand for, in order
unfoldable pub decode : (due : ℕ) → List ℕ → List ℕ
unfolding value_of clean_of dirty_of fill
decode due [] = []
decode zero (m ∷ ws) = replicate (clean_of m) (fill 32 (value_of m)) ++ decode (dirty_of m) ws
decode (suc due) (w ∷ ws) = w ∷ decode due ws

-- the segments of a whole body
abbrev pub segments : List ℕ → List ℕ
segments body = decode 0 body

-- the rows of a body; only those below R are asked for, so a run of ones over the last segment means its real rows
unfoldable pub ewah_rows : List ℕ → ℕ → Bool
unfolding has_row decode
ewah_rows body r = has_row 32 (segments body) r

-- how many dirty words are still due after these words
unfoldable pub due_after : (due : ℕ) → List ℕ → ℕ
unfolding dirty_of
due_after due [] = due
due_after zero (m ∷ ws) = due_after (dirty_of m) ws
due_after (suc due) (w ∷ ws) = due_after due ws

-- ---- faults: the first one, with the place of its word

module _ (bitmap R : ℕ) where
  -- `place` is the next word's, `left` the number of segments still to come
  unfoldable pub fault_from : (place due left : ℕ) → List ℕ → Verdict
  unfolding refuse_if over_pad value_of clean_of dirty_of
  -- 6, at the place past the body: it ends and segments are missing
  fault_from place due left [] = refuse_if (ltb 0 left) 6 bitmap place sound
  -- a marker: 5, fewer words follow than its dirty count; 6, its two counts pass the segments left
  fault_from place zero left (m ∷ ws) =
      refuse_if (ltb (length ws) (dirty_of m)) 5 bitmap place
      (refuse_if (ltb left (clean_of m + dirty_of m)) 6 bitmap place
      (fault_from (suc place) (dirty_of m) (left - clean_of m) ws))
  -- a dirty word: 7, it sets a pad bit
  fault_from place (suc due) left (w ∷ ws) =
      refuse_if (over_pad 32 R left 1 w) 7 bitmap place
      (fault_from (suc place) due (left - 1) ws)

-- the first fault of bitmap number `bitmap`, a body of R rows whose first word has the place `place`
unfoldable pub ewah_fault : (bitmap place R : ℕ) → List ℕ → Verdict
unfolding fault_from segment_count
ewah_fault bitmap place R body = fault_from bitmap R place 0 (segment_count 32 R) body
