-- Readings of a writer that takes rows in batches, worked out by hand from request 9 and paper 01's format, as one table over the
-- definitions; `proofs/AllAppends` has the one claim. Words are hexadecimal where that shows a marker or bits.
-- Assumes nothing.
use Rattle.std.specs.Prelude.{ℕ, Bool, true, ◌&&◌, List, [], ◌∷◌, eqb, length, take}
use Rattle.meaning.specs.Readings.{same, is_refused, is_answer}
use Rattle.batches.specs.Append.{Batch, Kept, start_on, outcome_of, after_batch, after_all, accepted_of}

-- ---- what a reading can say

pub data AppendReading : Type 0 where
  -- a writer begins on this buffer: the state's length is n, and nothing is in use
  begins : (buffer : List ℕ) (n : ℕ) → AppendReading
  -- a batch that is accepted: afterwards the state has these rows and words, and the buffer is this
  accepts : (k : Kept) (b : Batch) (rows words : ℕ) (buffer : List ℕ) → AppendReading
  -- one that is refused: state and buffer stay
  refuses : (k : Kept) (b : Batch) (number word : ℕ) → AppendReading
  -- batches in turn on this buffer, n of them accepted: state and buffer after the last
  chains : (buffer : List ℕ) (bs : List Batch) (n rows words : ℕ) (buffer' : List ℕ) → AppendReading

-- state and buffer lent together; `lent_as` with another length than the buffer's in the state
abbrev pub lent_as : (room rows words : ℕ) → List ℕ → Kept
lent_as room rows words buffer = record { state = record { room = room; rows = rows; words = words }; buffer = buffer }

abbrev pub lent : (rows words : ℕ) → List ℕ → Kept
lent rows words buffer = lent_as (length buffer) rows words buffer

-- a batch of so many rows
abbrev pub of : (rows : ℕ) → List ℕ → Batch
of rows plain = record { rows = rows; plain = plain }

unfoldable pub is_kept : Kept → (room rows words : ℕ) → List ℕ → Bool
unfolding same
is_kept k room rows words buffer =
    eqb k.state.room room && eqb k.state.rows rows && eqb k.state.words words && same k.buffer buffer

-- the reading holds of the definitions
unfoldable pub append_passes : AppendReading → Bool
unfolding is_kept same is_refused is_answer after_batch accepted_of
append_passes (begins buffer n) = is_kept (start_on buffer) n 0 0 buffer
append_passes (accepts k b rows words buffer) =
    is_answer (outcome_of k b) (take words buffer) && is_kept (after_batch k b) k.state.room rows words buffer
append_passes (refuses k b number word) =
    is_refused (outcome_of k b) number 0 word && is_kept (after_batch k b) k.state.room k.state.rows k.state.words k.buffer
append_passes (chains buffer bs n rows words buffer') =
    eqb (length (accepted_of (start_on buffer) bs)) n && is_kept (after_all (start_on buffer) bs) (length buffer) rows words buffer'

-- every reading of a table does
unfoldable pub all_appends_pass : List AppendReading → Bool
unfolding append_passes
all_appends_pass [] = true
all_appends_pass (c ∷ cs) = append_passes c && all_appends_pass cs

-- ---- the table

-- 40 rows, all set (request 3)
abbrev pub forty : Kept
forty = lent 40 1 (0x00000005 ∷ 8 ∷ [])

-- the same with the last segment as a dirty word: sound, but not in canonical form
abbrev pub wasteful : Kept
wasteful = lent 40 2 (0x00020003 ∷ 0x000000FF ∷ [])

-- 8 rows, of which 0 and 7 are set: the part segment is a dirty word
abbrev pub eight : Kept
eight = lent 8 2 (0x00020000 ∷ 0x00000081 ∷ 8 ∷ 9 ∷ [])

-- rows 40 to 47 and 64 to 71 of 72, and a word behind their body
abbrev pub seventy_two : List ℕ
seventy_two = 0x00020002 ∷ 0xFF00 ∷ 0x00000003 ∷ 10 ∷ []

unfoldable pub append_readings : List AppendReading
append_readings =
    -- a writer begins
    begins (7 ∷ 8 ∷ 9 ∷ []) 3
    ∷ begins [] 0
    -- no rows: nothing changes
    ∷ accepts (lent 0 0 (7 ∷ 8 ∷ [])) (of 0 []) 0 0 (7 ∷ 8 ∷ [])
    ∷ accepts (lent 0 0 []) (of 0 []) 0 0 []
    ∷ accepts forty (of 0 []) 40 1 (0x00000005 ∷ 8 ∷ [])
    ∷ accepts eight (of 0 []) 8 2 (0x00020000 ∷ 0x00000081 ∷ 8 ∷ 9 ∷ [])
    -- no rows and a word: 8. 12 is tested for all the same
    ∷ refuses forty (of 0 (0 ∷ [])) 8 0
    ∷ refuses (lent 0 0 []) (of 0 (0 ∷ [])) 8 0
    ∷ refuses wasteful (of 0 []) 12 0
    -- the first rows: a part segment that is clean by its rows, one that is not; whole segments; across
    ∷ accepts (lent 0 0 (7 ∷ 8 ∷ 9 ∷ [])) (of 1 (0 ∷ [])) 1 1 (0x00000002 ∷ 8 ∷ 9 ∷ [])
    ∷ accepts (lent 0 0 (7 ∷ 8 ∷ 9 ∷ [])) (of 1 (1 ∷ [])) 1 1 (0x00000003 ∷ 8 ∷ 9 ∷ [])
    ∷ accepts (lent 0 0 (7 ∷ 8 ∷ 9 ∷ [])) (of 2 (1 ∷ [])) 2 2 (0x00020000 ∷ 1 ∷ 9 ∷ [])
    ∷ accepts (lent 0 0 (7 ∷ 8 ∷ 9 ∷ [])) (of 31 (0x7FFFFFFF ∷ [])) 31 1 (0x00000003 ∷ 8 ∷ 9 ∷ [])
    ∷ accepts (lent 0 0 (7 ∷ 8 ∷ 9 ∷ [])) (of 32 (0xFFFFFFFF ∷ [])) 32 1 (0x00000003 ∷ 8 ∷ 9 ∷ [])
    ∷ accepts (lent 0 0 (7 ∷ 8 ∷ 9 ∷ [])) (of 32 (0x7FFFFFFF ∷ [])) 32 2 (0x00020000 ∷ 0x7FFFFFFF ∷ 9 ∷ [])
    ∷ accepts (lent 0 0 (7 ∷ 8 ∷ 9 ∷ [])) (of 33 (0xFFFFFFFF ∷ 1 ∷ [])) 33 1 (0x00000005 ∷ 8 ∷ 9 ∷ [])
    ∷ accepts (lent 0 0 (7 ∷ 8 ∷ 9 ∷ [])) (of 40 (0x1 ∷ 0x80 ∷ [])) 40 3 (0x00040000 ∷ 0x1 ∷ 0x80 ∷ [])
    ∷ accepts (lent 0 0 (7 ∷ 8 ∷ 9 ∷ [])) (of 64 (0 ∷ 0 ∷ [])) 64 1 (0x00000004 ∷ 8 ∷ 9 ∷ [])
    ∷ accepts (lent 0 0 (6 ∷ 7 ∷ 8 ∷ 9 ∷ 10 ∷ [])) (of 96 (0x20 ∷ 0 ∷ 1 ∷ [])) 96 4 (0x00020000 ∷ 0x20 ∷ 0x00020002 ∷ 1 ∷ 10 ∷ [])
    -- behind whole segments: a run goes on, or ends; dirty words join the last marker
    ∷ accepts (lent 32 1 (0x00000002 ∷ 8 ∷ [])) (of 32 (0 ∷ [])) 64 1 (0x00000004 ∷ 8 ∷ [])
    ∷ accepts (lent 32 1 (0x00000002 ∷ 8 ∷ [])) (of 32 (0xFFFFFFFF ∷ [])) 64 2 (0x00000002 ∷ 0x00000003 ∷ [])
    ∷ accepts (lent 32 1 (0x00000002 ∷ 8 ∷ [])) (of 8 (0x42 ∷ [])) 40 2 (0x00020002 ∷ 0x42 ∷ [])
    ∷ accepts (lent 32 2 (0x00020000 ∷ 0xF0 ∷ 8 ∷ [])) (of 32 (0xE0 ∷ [])) 64 3 (0x00040000 ∷ 0xF0 ∷ 0xE0 ∷ [])
    ∷ accepts (lent 32 2 (0x00020000 ∷ 0xF0 ∷ 8 ∷ [])) (of 5 (0 ∷ [])) 37 3 (0x00020000 ∷ 0xF0 ∷ 0x00000002 ∷ [])
    ∷ accepts (lent 64 1 (0x00000005 ∷ 8 ∷ [])) (of 1 (1 ∷ [])) 65 1 (0x00000007 ∷ 8 ∷ [])
    ∷ accepts (lent 64 1 (0x00000005 ∷ 8 ∷ [])) (of 1 (0 ∷ [])) 65 2 (0x00000005 ∷ 0x00000002 ∷ [])
    -- a part segment that is a dirty word: filled in part, exactly, and across, where the rest is mixed or clean
    ∷ accepts eight (of 8 (0x42 ∷ [])) 16 2 (0x00020000 ∷ 0x00004281 ∷ 8 ∷ 9 ∷ [])
    ∷ accepts eight (of 24 (0xFFFFFF ∷ [])) 32 2 (0x00020000 ∷ 0xFFFFFF81 ∷ 8 ∷ 9 ∷ [])
    ∷ accepts eight (of 32 (0x42000001 ∷ [])) 40 3 (0x00040000 ∷ 0x00000181 ∷ 0x42 ∷ 9 ∷ [])
    ∷ accepts eight (of 32 (0 ∷ [])) 40 3 (0x00020000 ∷ 0x00000081 ∷ 0x00000002 ∷ 9 ∷ [])
    ∷ accepts eight (of 88 (0xFF000000 ∷ 0xFFFFFFFF ∷ 0xFFFFFF ∷ [])) 96 3 (0x00020000 ∷ 0x00000081 ∷ 0x00000005 ∷ 9 ∷ [])
    ∷ accepts (lent 40 3 (0x00040000 ∷ 0x1 ∷ 0x80 ∷ 9 ∷ [])) (of 24 (1 ∷ [])) 64 3 (0x00040000 ∷ 0x1 ∷ 0x180 ∷ 9 ∷ [])
    ∷ accepts (lent 72 2 (0x00020005 ∷ 0x1 ∷ 9 ∷ [])) (of 4 (0 ∷ [])) 76 2 (0x00020005 ∷ 0x1 ∷ 9 ∷ [])
    -- one that is a clean run by itself: it goes on, turns into a dirty word, or ends at the segment's end
    ∷ accepts (lent 8 1 (0x00000002 ∷ 8 ∷ [])) (of 8 (0 ∷ [])) 16 1 (0x00000002 ∷ 8 ∷ [])
    ∷ accepts (lent 8 1 (0x00000002 ∷ 8 ∷ [])) (of 8 (0xFF ∷ [])) 16 2 (0x00020000 ∷ 0xFF00 ∷ [])
    ∷ accepts (lent 8 1 (0x00000003 ∷ 8 ∷ [])) (of 24 (0xFFFFFF ∷ [])) 32 1 (0x00000003 ∷ 8 ∷ [])
    ∷ accepts (lent 8 1 (0x00000003 ∷ 8 ∷ [])) (of 8 (0 ∷ [])) 16 2 (0x00020000 ∷ 0xFF ∷ [])
    ∷ accepts (lent 8 1 (0x00000003 ∷ 8 ∷ [])) (of 32 (0x00FFFFFF ∷ [])) 40 2 (0x00000003 ∷ 0x00000002 ∷ [])
    ∷ accepts (lent 8 1 (0x00000003 ∷ 8 ∷ [])) (of 88 (0xFFFFFFFF ∷ 0xFFFFFFFF ∷ 0xFFFFFF ∷ [])) 96 1 (0x00000007 ∷ 8 ∷ [])
    -- one that ends a longer run, which may keep its other segments alone
    ∷ accepts forty (of 24 (0xFFFFFF ∷ [])) 64 1 (0x00000005 ∷ 8 ∷ [])
    ∷ accepts forty (of 24 (0x7FFFFF ∷ [])) 64 2 (0x00020003 ∷ 0x7FFFFFFF ∷ [])
    ∷ accepts forty (of 1 (0 ∷ [])) 41 2 (0x00020003 ∷ 0xFF ∷ [])
    ∷ accepts forty (of 25 (0xFFFFFF ∷ [])) 65 2 (0x00000005 ∷ 0x00000002 ∷ [])
    ∷ accepts (lent 40 1 (0x00000004 ∷ 8 ∷ [])) (of 24 (0xFFFFFF ∷ [])) 64 2 (0x00020002 ∷ 0xFFFFFF00 ∷ [])
    ∷ accepts (lent 40 1 (0x00000004 ∷ 8 ∷ [])) (of 60 (0 ∷ 0 ∷ [])) 100 1 (0x00000008 ∷ 8 ∷ [])
    -- one for which alone the last marker stands: as a dirty word it joins the marker before
    ∷ accepts (lent 40 3 (0x00020000 ∷ 0x1 ∷ 0x00000003 ∷ 9 ∷ [])) (of 8 (0 ∷ [])) 48 3 (0x00040000 ∷ 0x1 ∷ 0xFF ∷ 9 ∷ [])
    ∷ accepts (lent 40 3 (0x00020000 ∷ 0x1 ∷ 0x00000002 ∷ 9 ∷ [])) (of 24 (0x800000 ∷ [])) 64 3 (0x00040000 ∷ 0x1 ∷ 0x80000000 ∷ 9 ∷ [])
    ∷ accepts (lent 72 2 (0x00000004 ∷ 0x00000003 ∷ 9 ∷ [])) (of 8 (0 ∷ [])) 80 2 (0x00020004 ∷ 0xFF ∷ 9 ∷ [])
    ∷ accepts (lent 72 2 (0x00000005 ∷ 0x00000002 ∷ 9 ∷ [])) (of 24 (0xFFFFFF ∷ [])) 96 2 (0x00020005 ∷ 0xFFFFFF00 ∷ 9 ∷ [])
    ∷ accepts (lent 72 2 (0x00000004 ∷ 0x00000003 ∷ 9 ∷ [])) (of 56 (0xFFFFFFFF ∷ 0xFFFFFF ∷ [])) 128 2 (0x00000004 ∷ 0x00000005 ∷ 9 ∷ [])
    -- 12: the buffer is longer or shorter than the one that the writer began with
    ∷ refuses (lent_as 1 0 0 (7 ∷ 8 ∷ [])) (of 0 []) 12 0
    ∷ refuses (lent_as 3 0 0 (7 ∷ 8 ∷ [])) (of 0 []) 12 0
    ∷ refuses (lent_as 3 40 1 (0x00000005 ∷ 8 ∷ [])) (of 24 (0xFFFFFF ∷ [])) 12 0
    -- 12: the rows accepted pass the limit; the words in use pass the buffer, also where what there is of them is a body
    ∷ refuses (lent 1073741825 0 (7 ∷ 8 ∷ [])) (of 0 []) 12 0
    ∷ refuses (lent 0 3 (7 ∷ 8 ∷ [])) (of 0 []) 12 0
    ∷ refuses (lent 64 2 (0x00000004 ∷ [])) (of 0 []) 12 0
    -- 12: rows and no words; words and no rows, an idle marker included
    ∷ refuses (lent 1 0 (7 ∷ 8 ∷ [])) (of 0 []) 12 0
    ∷ refuses (lent 0 1 (0x00000002 ∷ 8 ∷ [])) (of 0 []) 12 0
    ∷ refuses (lent 0 1 (0 ∷ 8 ∷ [])) (of 0 []) 12 0
    -- 12: the words are no sound body of so many rows. Too few segments, too many, a dirty word missing, a pad bit
    ∷ refuses (lent 65 1 (0x00000005 ∷ 8 ∷ [])) (of 0 []) 12 0
    ∷ refuses (lent 32 1 (0x00000004 ∷ 8 ∷ [])) (of 0 []) 12 0
    ∷ refuses (lent 32 1 (0x00020000 ∷ 8 ∷ [])) (of 0 []) 12 0
    ∷ refuses (lent 8 2 (0x00020000 ∷ 0x181 ∷ [])) (of 0 []) 12 0
    -- 12: a sound body that is not in canonical form. A clean segment, and a full part segment, as dirty words; a run, and dirty
    -- words, under two markers; an idle marker; dirty words under the clean value 1
    ∷ refuses (lent 96 4 (0x00060000 ∷ 0x20 ∷ 0 ∷ 1 ∷ [])) (of 0 []) 12 0
    ∷ refuses wasteful (of 24 (0xFFFFFF ∷ [])) 12 0
    ∷ refuses (lent 64 2 (0x00000002 ∷ 0x00000002 ∷ [])) (of 0 []) 12 0
    ∷ refuses (lent 64 4 (0x00020000 ∷ 1 ∷ 0x00020000 ∷ 2 ∷ [])) (of 0 []) 12 0
    ∷ refuses (lent 32 2 (0 ∷ 0x00000002 ∷ [])) (of 0 []) 12 0
    ∷ refuses (lent 32 2 (0x00020001 ∷ 1 ∷ [])) (of 0 []) 12 0
    -- a swapped body or state that passes: the rows are those of the body in use
    ∷ accepts (lent 40 1 (0x00000004 ∷ 8 ∷ [])) (of 1 (1 ∷ [])) 41 2 (0x00020002 ∷ 0x100 ∷ [])
    ∷ accepts (lent 33 1 (0x00000005 ∷ 8 ∷ [])) (of 31 (0 ∷ [])) 64 2 (0x00020003 ∷ 0x1 ∷ [])
    ∷ accepts (lent 64 1 (0x00000005 ∷ 8 ∷ [])) (of 8 (0x42 ∷ [])) 72 2 (0x00020005 ∷ 0x42 ∷ [])
    -- 12 comes before 3, 8, 7 and 9
    ∷ refuses wasteful (of 1073741824 []) 12 0
    ∷ refuses wasteful (of 0 (0 ∷ [])) 12 0
    ∷ refuses wasteful (of 8 (0x100 ∷ [])) 12 0
    ∷ refuses wasteful (of 33 (1 ∷ 1 ∷ [])) 12 0
    -- 3 counts all rows, those so far and the batch's: one over the limit, and at it, where 8 is due for the words. 3 comes before 8
    ∷ refuses forty (of 1073741785 []) 3 1
    ∷ refuses forty (of 1073741784 []) 8 0
    ∷ refuses (lent 0 0 (7 ∷ [])) (of 1073741825 []) 3 1
    ∷ refuses (lent 0 0 (7 ∷ [])) (of 1073741824 []) 8 0
    -- 8: a word too many, which also has a bit past the rows; too few
    ∷ refuses eight (of 8 (0x100 ∷ 0x100 ∷ [])) 8 0
    ∷ refuses eight (of 33 (0xFFFFFFFF ∷ [])) 8 0
    ∷ refuses eight (of 8 []) 8 0
    -- 7: a bit past the batch's rows, at the place of its word; it comes before 9
    ∷ refuses forty (of 24 (0x1000000 ∷ [])) 7 0
    ∷ refuses (lent 0 0 []) (of 8 (0x100 ∷ [])) 7 0
    ∷ refuses (lent 32 2 (0x00020000 ∷ 1 ∷ [])) (of 33 (1 ∷ 2 ∷ [])) 7 1
    -- 9, with the words of the whole body: of a buffer without words, and of longer ones
    ∷ refuses (lent 0 0 []) (of 1 (0 ∷ [])) 9 1
    ∷ refuses (lent 0 0 []) (of 33 (1 ∷ 0 ∷ [])) 9 3
    ∷ refuses (lent 64 1 (0x00000005 ∷ [])) (of 8 (0x7F ∷ [])) 9 2
    ∷ refuses (lent 40 1 (0x00000005 ∷ [])) (of 1 (0 ∷ [])) 9 2
    ∷ refuses (lent 32 2 (0x00020000 ∷ 1 ∷ [])) (of 33 (1 ∷ 0 ∷ [])) 9 4
    -- batch after batch: none; 40 set rows, 24 more, and then a clear one; row by row
    ∷ chains (7 ∷ 8 ∷ []) [] 0 0 0 (7 ∷ 8 ∷ [])
    ∷ chains (7 ∷ 8 ∷ 9 ∷ [])
    (of 40 (0xFFFFFFFF ∷ 0xFF ∷ []) ∷ of 24 (0xFFFFFF ∷ []) ∷ of 1 (0 ∷ []) ∷ []) 3 65 2 (0x00000005 ∷ 0x00000002 ∷ 9 ∷ [])
    ∷ chains (7 ∷ 8 ∷ 9 ∷ [])
    (of 1 (1 ∷ []) ∷ of 1 (0 ∷ []) ∷ of 1 (1 ∷ []) ∷ of 1 (1 ∷ []) ∷ of 1 (0 ∷ []) ∷ []) 5 5 2 (0x00020000 ∷ 0xD ∷ 9 ∷ [])
    -- the same 72 rows, cut in five ways: rows 40 to 47 and 64 to 71 are set
    ∷ chains (7 ∷ 8 ∷ 9 ∷ 10 ∷ []) (of 72 (0 ∷ 0xFF00 ∷ 0xFF ∷ []) ∷ []) 1 72 3 seventy_two
    ∷ chains (7 ∷ 8 ∷ 9 ∷ 10 ∷ []) (of 31 (0 ∷ []) ∷ of 33 (0x1FE00 ∷ 0 ∷ []) ∷ of 8 (0xFF ∷ []) ∷ []) 3 72 3 seventy_two
    ∷ chains (7 ∷ 8 ∷ 9 ∷ 10 ∷ []) (of 36 (0 ∷ 0 ∷ []) ∷ of 36 (0xF0000FF0 ∷ 0xF ∷ []) ∷ []) 2 72 3 seventy_two
    ∷ chains (7 ∷ 8 ∷ 9 ∷ 10 ∷ [])
    (of 0 [] ∷ of 40 (0 ∷ 0 ∷ []) ∷ of 4 (0xF ∷ []) ∷ of 0 [] ∷ of 4 (0xF ∷ []) ∷ of 24 (0xFF0000 ∷ []) ∷ []) 6 72 3 seventy_two
    ∷ chains (7 ∷ 8 ∷ 9 ∷ 10 ∷ []) (of 64 (0 ∷ 0xFF00 ∷ []) ∷ of 7 (0x7F ∷ []) ∷ of 1 (1 ∷ []) ∷ []) 3 72 3 seventy_two
    -- writing goes on after a refusal: 8, 7 and 3 between, and 9 for rows that do not fit where later ones do
    ∷ chains (7 ∷ 8 ∷ 9 ∷ 10 ∷ [])
    (of 0 (0 ∷ []) ∷ of 64 (0 ∷ 0xFF00 ∷ []) ∷ of 7 (0xFF ∷ []) ∷ of 8 (0xFF ∷ []) ∷ of 1073741824 [] ∷ []) 2 72 3 seventy_two
    ∷ chains (7 ∷ [])
    (of 40 (0xFFFFFFFF ∷ 0xFF ∷ []) ∷ of 8 (0x7F ∷ []) ∷ of 24 (0xFFFFFF ∷ []) ∷ []) 2 64 1 (0x00000005 ∷ [])
    ∷ chains [] (of 0 [] ∷ of 1 (1 ∷ []) ∷ of 0 [] ∷ []) 2 0 0 []
    ∷ []
