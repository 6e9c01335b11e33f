-- WAH bodies of 32-bit words, as they are read and as they are written in canonical form: segments of 31 rows. Request 4 of paper 02;
-- source document 001, whose terms are fill word and literal word. Its appending steps decide nothing here.
-- Assumes nothing.
use Rattle.std.specs.Prelude.{ℕ, zero, suc, ◌+◌, ◌-◌, ◌*◌, ◌/◌, ◌%◌, Bool, cond, ◌&&◌, eqb, leb, ltb}
use mathlib.Core.List.{List, [], ◌∷◌, ◌++◌, foldl}
use Rattle.meaning.specs.Limits.{most_fill}
use Rattle.meaning.specs.Segment.{Segment, clean, mixed, fill, has_row, segment_count, last_rows, over_pad}
use Rattle.meaning.specs.Piece.{Piece, clean_run, dirty_word, piece_size, dirty_in, flat}
use Rattle.meaning.specs.Refusal.{Verdict, sound, refuse_if}

-- ---- a word

-- the top bit: a fill word. Without it a literal word, which is its segment's word
unfoldable pub is_fill : ℕ → Bool
is_fill x = leb 2147483648 x

-- bit 30 of a fill: the clean value
unfoldable pub fill_value : ℕ → ℕ
fill_value x = x / 1073741824 % 2

-- bits 0 to 29 of a fill: how many segments
unfoldable pub fill_count : ℕ → ℕ
fill_count x = x % 1073741824

-- the fill with these fields
unfoldable pub fill_word : (v n : ℕ) → ℕ
fill_word v n = 2147483648 + 1073741824 * v + n

-- ---- pieces: each word is one

unfoldable pub piece_of : ℕ → Piece
unfolding is_fill fill_value fill_count
piece_of x = cond (is_fill x) (clean_run (fill_value x) (fill_count x)) (dirty_word x)

unfoldable pub wah_pieces : List ℕ → List Piece
unfolding piece_of
wah_pieces [] = []
wah_pieces (x ∷ xs) = piece_of x ∷ wah_pieces xs

-- the segments of a body
unfoldable pub wah_segments : List ℕ → List ℕ
unfolding flat wah_pieces
wah_segments body = flat 31 (wah_pieces body)

-- the rows of a body; only those below R are asked for
unfoldable pub wah_rows : List ℕ → ℕ → Bool
unfolding has_row wah_segments
wah_rows body r = has_row 31 (wah_segments body) r

-- ---- faults: the first one, with the place of its word

module _ (bitmap R : ℕ) where
  -- `place` is the next word's, `left` the number of segments still to come
  unfoldable pub wah_fault_from : (place left : ℕ) → List ℕ → Verdict
  unfolding refuse_if over_pad piece_of piece_size dirty_in
  -- 6, at the place past the body: it ends and segments are missing
  wah_fault_from place left [] = refuse_if (ltb 0 left) 6 bitmap place sound
  -- 10, a fill of no segments; 6, more segments than are left; 7, a literal that sets a pad bit
  wah_fault_from place left (x ∷ xs) =
      refuse_if (eqb (piece_size (piece_of x)) 0) 10 bitmap place
      (refuse_if (ltb left (piece_size (piece_of x))) 6 bitmap place
      (refuse_if (over_pad 31 R left 1 (dirty_in (piece_of x))) 7 bitmap place
      (wah_fault_from (suc place) (left - piece_size (piece_of x)) xs)))

-- the first fault of bitmap number `bitmap`, a body of R rows whose first word has the place `place`
unfoldable pub wah_fault : (bitmap place R : ℕ) → List ℕ → Verdict
unfolding wah_fault_from segment_count
wah_fault bitmap place R body = wah_fault_from bitmap R place (segment_count 31 R) body

-- ---- canonical form: each longest run of two or more equal clean segments is one fill; any other segment is a literal

-- a body as it grows: its finished words, and the run of n clean segments of value v that it ends with, none if n is 0
pub data WahDraft : Type 0 where
  wah_draft : (done : List ℕ) (v n : ℕ) → WahDraft

-- the words of a run whose last segment has `real` rows: a single segment is a literal, more are one fill
unfoldable pub run_words : (real v n : ℕ) → List ℕ
unfolding fill fill_word
run_words real v zero = []
run_words real v (suc zero) = fill real v ∷ []
run_words real v (suc (suc n)) = fill_word v (suc (suc n)) ∷ []

-- all words, where the last segment has `real` rows
unfoldable pub wah_body : (real : ℕ) → WahDraft → List ℕ
unfolding run_words
wah_body real (wah_draft done v n) = done ++ run_words real v n

-- one segment more. A clean one joins the run if that has its value and is shorter than the longest fill
unfoldable pub wah_put : WahDraft → Segment → WahDraft
unfolding run_words
wah_put (wah_draft done v n) (clean b) =
    cond (ltb 0 n && eqb v b && ltb n most_fill) (wah_draft done v (suc n)) (wah_draft (done ++ run_words 31 v n) b 1)
wah_put (wah_draft done v n) (mixed x) = wah_draft (done ++ run_words 31 v n ++ x ∷ []) 0 0

-- the words of the segments of R rows; no segments give no words
unfoldable pub wah_of : (R : ℕ) → List Segment → List ℕ
unfolding wah_body wah_put last_rows
wah_of R ss = wah_body (last_rows 31 R) (foldl wah_put (wah_draft [] 0 0) ss)
