-- Readings of columns and of new indexes, worked out by hand from paper 01's format and requests 1, 7 and 8, as one table over the
-- definitions; `proofs/AllColumns` has the one claim. The long ones of request 8 are a table by themselves, claimed by `LongRanks` of `laws`.
-- Assumes nothing.
use Rattle.std.specs.Prelude.{ℕ, suc, ◌-◌, Bool, true, false, ◌&&◌, ◌||◌, List, [], ◌∷◌, ◌++◌, eqb, ℤ, pos, negsuc, length, replicate}
use Rattle.meaning.specs.Question.{is_in}
use Rattle.meaning.specs.Answer.{buffer_after, words_reported, part_of, check}
use Rattle.meaning.specs.NewIndex.{index_of}
use Rattle.meaning.specs.declared.Format.TheVariants.{Ewah}
use Rattle.column_meaning.specs.Columns.{value, signed_value, pair, ranked}
use Rattle.meaning.specs.Refusal.{Outcome, refused, answer}
use Rattle.meaning.specs.declared.Pairing.{Pairing}
use Rattle.meaning.specs.declared.Pairing.TheVariants.{Sum, Difference, Smaller, DifferenceOrZero}
use Rattle.meaning.specs.declared.Ranking.{Ranking}
use Rattle.meaning.specs.declared.Ranking.TheVariants.{Largest, Smallest}
use Rattle.column_meaning.specs.Column.{whole}
use Rattle.meaning.specs.Rows.{none}
use Rattle.meaning.specs.Readings.{same, is_sound, is_refused, is_answer, is_number}

-- ---- what a reading can say

-- of a new index, of a value, of two columns, of the k largest or smallest rows
pub data ColumnReading : Type 0 where
  -- the new index of these sets
  makes : (R : ℕ) (sets : List (ℕ → Bool)) (words : List ℕ) → ColumnReading
  -- the value at a row, or the refusal
  gives : (index list : List ℕ) (r v : ℕ) → ColumnReading
  denies : (index list : List ℕ) (r number bitmap word : ℕ) → ColumnReading
  -- the same of a signed value
  gives_signed : (index list : List ℕ) (r : ℕ) (z : ℤ) → ColumnReading
  denies_signed : (index list : List ℕ) (r number bitmap word : ℕ) → ColumnReading
  -- an operation's answer: a sound index of exactly these words, with as much room or more, where what lies behind them stays;
  -- and 9 with one word less
  combines : (op : Pairing) (index first second words : List ℕ) → ColumnReading
  -- an operation that is refused
  declines : (op : Pairing) (index first second : List ℕ) (room number bitmap word : ℕ) → ColumnReading
  -- an answer's value at a row, asked by this list; and a signed difference's
  leads_to : (op : Pairing) (index first second : List ℕ) (room : ℕ) (list : List ℕ) (r v : ℕ) → ColumnReading
  leads_signed : (index first second : List ℕ) (room : ℕ) (list : List ℕ) (r : ℕ) (z : ℤ) → ColumnReading
  -- the k largest or smallest rows: a body of exactly these words, with as much room or more, where what lies behind them stays;
  -- and 9 with one word less, if there is one
  picks : (op : Ranking) (index list : List ℕ) (k : ℕ) (words : List ℕ) → ColumnReading
  -- the same with just as much room, which is quicker to compute where there are many rows
  ranks : (op : Ranking) (index list : List ℕ) (k : ℕ) (words : List ℕ) → ColumnReading
  -- the question for them, refused
  declines_rank : (op : Ranking) (index list : List ℕ) (k room number bitmap word : ℕ) → ColumnReading

unfoldable pub same_integer : ℤ → ℤ → Bool
same_integer (pos n) (pos m) = eqb n m
same_integer (pos n) (negsuc m) = false
same_integer (negsuc n) (pos m) = false
same_integer (negsuc n) (negsuc m) = eqb n m

unfoldable pub is_integer : Outcome ℤ → ℤ → Bool
unfolding same_integer
is_integer (refused n b w) z = false
is_integer (answer y) z = same_integer y z

-- the reading holds of the definitions
unfoldable pub column_passes : ColumnReading → Bool
unfolding same is_sound is_refused is_answer is_number is_integer part_of check index_of value signed_value pair ranked buffer_after words_reported
column_passes (makes R sets words) = same (index_of Ewah R sets) words && is_sound (check words)
column_passes (gives index list r v) = is_number (value index list r) v
column_passes (denies index list r number bitmap word) = is_refused (value index list r) number bitmap word
column_passes (gives_signed index list r z) = is_integer (signed_value index list r) z
column_passes (denies_signed index list r number bitmap word) = is_refused (signed_value index list r) number bitmap word
column_passes (combines op index first second words) =
    let n = length words in
    let o = pair index op first second (suc n) in
    is_sound (check words)
    && is_answer (pair index op first second n) words
    && same (buffer_after o (replicate (suc n) 7)) (words ++ 7 ∷ [])
    && eqb (words_reported o) n
    && is_refused (pair index op first second (n - 1)) 9 0 n
column_passes (declines op index first second room number bitmap word) =
    let o = pair index op first second room in
    is_refused o number bitmap word && same (buffer_after o (replicate room 7)) (replicate room 7) && eqb (words_reported o) 0
column_passes (leads_to op index first second room list r v) =
    is_number (value (part_of (pair index op first second room)) list r) v
column_passes (leads_signed index first second room list r z) =
    is_integer (signed_value (part_of (pair index Difference first second room)) list r) z
column_passes (picks op index list k words) =
    let n = length words in
    let o = ranked index op list k (suc n) in
    is_answer (ranked index op list k n) words
    && same (buffer_after o (replicate (suc n) 7)) (words ++ 7 ∷ [])
    && eqb (words_reported o) n
    && (eqb n 0 || is_refused (ranked index op list k (n - 1)) 9 0 n)
column_passes (ranks op index list k words) = is_answer (ranked index op list k (length words)) words
column_passes (declines_rank op index list k room number bitmap word) =
    let o = ranked index op list k room in
    is_refused o number bitmap word && same (buffer_after o (replicate room 7)) (replicate room 7) && eqb (words_reported o) 0

-- of a sum
abbrev pub adds : (index first second words : List ℕ) → ColumnReading
adds = combines Sum

-- every reading of a table does
unfoldable pub all_columns_pass : List ColumnReading → Bool
unfolding column_passes
all_columns_pass [] = true
all_columns_pass (c ∷ cs) = column_passes c && all_columns_pass cs

-- ---- indexes

-- 3 rows. Bitmap 0 has all of them, 1 rows 0 and 2, 2 rows 1 and 2, 3 and 4 rows 0 and 2, 5 none. As columns: 0, 1, 2 has the
-- values 1, 2, 3; 3, 4 has 1 at rows 0 and 2, and row 1 does not exist
abbrev pub three_rows : List ℕ
three_rows =
    1 ∷ 3 ∷ 6 ∷ 15 ∷ 2 ∷ 17 ∷ 2 ∷ 19 ∷ 2 ∷ 21 ∷ 2 ∷ 23 ∷ 2 ∷ 25 ∷ 1
    ∷ 0x00020000 ∷ 0x7 ∷ 0x00020000 ∷ 0x5 ∷ 0x00020000 ∷ 0x6 ∷ 0x00020000 ∷ 0x5 ∷ 0x00020000 ∷ 0x5 ∷ 0x00000002 ∷ []

-- their sum: rows 0 and 2 exist, with the values 2 and 4. Slice 0 is empty, and the carry is in the top slice
abbrev pub three_sum : List ℕ
three_sum =
    1 ∷ 3 ∷ 4 ∷ 11 ∷ 2 ∷ 13 ∷ 1 ∷ 14 ∷ 2 ∷ 16 ∷ 2
    ∷ 0x00020000 ∷ 0x5 ∷ 0x00000002 ∷ 0x00020000 ∷ 0x1 ∷ 0x00020000 ∷ 0x4 ∷ []

-- both with WAH bodies
abbrev pub three_wah : List ℕ
three_wah = 2 ∷ 3 ∷ 6 ∷ 15 ∷ 1 ∷ 16 ∷ 1 ∷ 17 ∷ 1 ∷ 18 ∷ 1 ∷ 19 ∷ 1 ∷ 20 ∷ 1 ∷ 0x7 ∷ 0x5 ∷ 0x6 ∷ 0x5 ∷ 0x5 ∷ 0 ∷ []

abbrev pub three_wah_sum : List ℕ
three_wah_sum = 2 ∷ 3 ∷ 4 ∷ 11 ∷ 1 ∷ 12 ∷ 1 ∷ 13 ∷ 1 ∷ 14 ∷ 1 ∷ 0x5 ∷ 0 ∷ 0x1 ∷ 0x4 ∷ []

-- 40 rows. Bitmap 0 has all of them, 1 rows 0 and 39, 2 rows 0 to 31, 3 none
abbrev pub forty_rows : List ℕ
forty_rows =
    1 ∷ 40 ∷ 4 ∷ 11 ∷ 2 ∷ 13 ∷ 3 ∷ 16 ∷ 2 ∷ 18 ∷ 1
    ∷ 0x00020003 ∷ 0x000000FF ∷ 0x00040000 ∷ 0x00000001 ∷ 0x00000080 ∷ 0x00000003 ∷ 0x00000002 ∷ 0x00000004 ∷ []

-- 40 rows. Bitmaps 0 and 1 have all of them, 0 with a dirty word for the last segment and 1 as a run of ones over its pad bits;
-- 2 has all but row 39
abbrev pub tail_rows : List ℕ
tail_rows = 1 ∷ 40 ∷ 3 ∷ 9 ∷ 2 ∷ 11 ∷ 1 ∷ 12 ∷ 2 ∷ 0x00020003 ∷ 0x000000FF ∷ 0x00000005 ∷ 0x00020003 ∷ 0x0000007F ∷ []

-- 3 rows, bitmap 0 has all, behind an idle marker, and 1 has row 1
abbrev pub idle_rows : List ℕ
idle_rows = 1 ∷ 3 ∷ 2 ∷ 7 ∷ 3 ∷ 10 ∷ 2 ∷ 0 ∷ 0x00020000 ∷ 0x7 ∷ 0x00020000 ∷ 0x2 ∷ []

-- no rows, two bitmaps with no words
abbrev pub no_rows : List ℕ
no_rows = 1 ∷ 0 ∷ 2 ∷ 7 ∷ 0 ∷ 7 ∷ 0 ∷ []

-- 8 rows. Bitmap 0 has all but rows 2 and 5, 1 rows 1 and 3, 2 rows 0, 3, 4 and 6, 3 none. As columns: 0, 1, 2 has the values
-- 2, 1, -, 3, 2, -, 2, 0; 0, 1 has 0, 1, -, 1, 0, -, 0, 0; of 0, 3 each value is 0. Rows 2 and 5 exist in none of them
abbrev pub eight_rows : List ℕ
eight_rows =
    1 ∷ 8 ∷ 4 ∷ 11 ∷ 2 ∷ 13 ∷ 2 ∷ 15 ∷ 2 ∷ 17 ∷ 1
    ∷ 0x00020000 ∷ 0xDB ∷ 0x00020000 ∷ 0x0A ∷ 0x00020000 ∷ 0x59 ∷ 0x00000002 ∷ []

-- the same with WAH bodies
abbrev pub eight_wah : List ℕ
eight_wah = 2 ∷ 8 ∷ 4 ∷ 11 ∷ 1 ∷ 12 ∷ 1 ∷ 13 ∷ 1 ∷ 14 ∷ 1 ∷ 0xDB ∷ 0x0A ∷ 0x59 ∷ 0 ∷ []

-- the body of one mixed segment
abbrev pub lone : ℕ → List ℕ
lone x = 0x00020000 ∷ x ∷ []

-- 40 rows in WAH, two segments, 9 rows in the last. Bitmap 0 has all of them, 1 rows 0 and 39, 2 rows 0 to 30, 3 none
abbrev pub forty_wah : List ℕ
forty_wah =
    2 ∷ 40 ∷ 4 ∷ 11 ∷ 1 ∷ 12 ∷ 2 ∷ 14 ∷ 2 ∷ 16 ∷ 1
    ∷ 0xC0000002 ∷ 0x00000001 ∷ 0x00000100 ∷ 0x7FFFFFFF ∷ 0 ∷ 0x80000002 ∷ []

-- 70 rows, three segments, 6 rows in the last. Bitmap 0 has all of them, 1 rows 32 to 63
abbrev pub seventy_rows : List ℕ
seventy_rows = 1 ∷ 70 ∷ 2 ∷ 7 ∷ 1 ∷ 8 ∷ 3 ∷ 0x00000007 ∷ 0x00000002 ∷ 0x00000003 ∷ 0x00000002 ∷ []

-- 70 rows in WAH, three segments, 8 rows in the last. Bitmap 0 has all of them
abbrev pub seventy_wah : List ℕ
seventy_wah = 2 ∷ 70 ∷ 1 ∷ 5 ∷ 1 ∷ 0xC0000003 ∷ []

-- lists of two and three numbers
abbrev pub two : (a b : ℕ) → List ℕ
two a b = a ∷ b ∷ []

abbrev pub triple : (a b c : ℕ) → List ℕ
triple a b c = a ∷ b ∷ c ∷ []

-- ---- the table

-- new indexes: of no sets, of an empty one, of 40 rows with a run, and of no rows
unfoldable pub new_readings : List ColumnReading
unfolding is_in
new_readings =
    makes 3 [] (1 ∷ 3 ∷ 0 ∷ [])
    ∷ makes 3 (is_in (two 0 2) ∷ none ∷ []) (1 ∷ 3 ∷ 2 ∷ 7 ∷ 2 ∷ 9 ∷ 1 ∷ 0x00020000 ∷ 0x5 ∷ 0x00000002 ∷ [])
    ∷ makes 40 ((λ r. true) ∷ is_in (two 0 39) ∷ [])
    (1 ∷ 40 ∷ 2 ∷ 7 ∷ 1 ∷ 8 ∷ 3 ∷ 0x00000005 ∷ 0x00040000 ∷ 0x00000001 ∷ 0x00000080 ∷ [])
    ∷ makes 0 ((λ r. true) ∷ none ∷ []) no_rows
    ∷ []

-- values
unfoldable pub value_readings : List ColumnReading
value_readings =
    -- each row's value; the lowest slice comes first; a number named twice, and the whole of 33 slices
    gives three_rows (triple 0 1 2) 0 1
    ∷ gives three_rows (triple 0 1 2) 1 2
    ∷ gives three_wah (triple 0 1 2) 2 3
    ∷ denies three_wah (two 3 2) 0 11 2 1
    ∷ gives three_rows (triple 0 1 2) 2 3
    ∷ gives three_rows (triple 0 2 1) 0 2
    ∷ gives three_rows (triple 0 0 0) 1 3
    ∷ gives three_rows (two 3 4) 2 1
    ∷ gives three_rows (two 0 5) 1 0
    ∷ gives three_rows (replicate 34 0) 1 8589934591
    ∷ gives forty_rows (triple 0 1 2) 39 1
    ∷ gives forty_rows (triple 0 1 2) 31 2
    ∷ gives forty_rows (triple 0 1 2) 32 0
    -- a bit past the last row is no stray row: a slice as a run over the last segment where existence has a dirty word, and
    -- the reverse
    ∷ gives tail_rows (two 0 1) 39 1
    ∷ gives tail_rows (triple 1 0 2) 39 1
    ∷ gives tail_rows (triple 0 1 2) 38 3
    -- 8: the list is too short, too long, or names a bitmap that is not there
    ∷ denies three_rows [] 0 8 0 0
    ∷ denies three_rows (0 ∷ []) 0 8 0 0
    ∷ denies three_rows (replicate 35 0) 0 8 0 0
    ∷ denies three_rows (two 0 6) 0 8 0 0
    ∷ denies three_rows (two 6 0) 0 8 0 0
    -- 8: there is no such row, or it does not exist
    ∷ denies three_rows (triple 0 1 2) 3 8 0 0
    ∷ denies three_rows (two 3 4) 1 8 0 0
    ∷ denies forty_rows (two 2 2) 32 8 0 0
    ∷ denies no_rows (two 0 1) 0 8 0 0
    -- 11: the bitmap's number, not its place; the first in the list's order; the lowest row; at whichever row is asked
    ∷ denies three_rows (two 3 2) 0 11 2 1
    ∷ denies three_rows (triple 3 4 2) 2 11 2 1
    ∷ denies three_rows (triple 3 2 0) 0 11 2 1
    ∷ denies three_rows (triple 3 0 2) 0 11 0 1
    ∷ denies forty_rows (two 2 1) 5 11 1 39
    ∷ denies forty_rows (two 2 0) 31 11 0 32
    ∷ denies forty_rows (two 1 2) 39 11 2 1
    -- a real row of such a run is one
    ∷ denies tail_rows (two 2 1) 0 11 1 39
    ∷ denies tail_rows (two 2 0) 0 11 0 39
    -- 8 before 11: no such row, a row that does not exist, a bad list
    ∷ denies three_rows (two 3 2) 3 8 0 0
    ∷ denies three_rows (two 3 2) 1 8 0 0
    ∷ denies three_rows (two 5 1) 0 8 0 0
    ∷ denies three_rows (triple 3 2 6) 0 8 0 0
    -- the index's own faults before 8
    ∷ denies (3 ∷ 3 ∷ 0 ∷ []) [] 9 2 0 0
    ∷ []

-- sums
unfoldable pub sum_readings : List ColumnReading
sum_readings =
    -- of 2 slices and of 1, and of 1 and of 2
    adds three_rows (triple 0 1 2) (two 3 4) three_sum
    ∷ adds three_wah (triple 0 1 2) (two 3 4) three_wah_sum
    ∷ adds three_rows (two 3 4) (triple 0 1 2) three_sum
    -- 7 and 1: a carry out of every slice
    ∷ adds three_rows (0 ∷ triple 0 0 0) (two 0 0)
    (1 ∷ 3 ∷ 5 ∷ 13 ∷ 1 ∷ 14 ∷ 1 ∷ 15 ∷ 1 ∷ 16 ∷ 1 ∷ 17 ∷ 1
    ∷ 0x00000003 ∷ 0x00000002 ∷ 0x00000002 ∷ 0x00000002 ∷ 0x00000003 ∷ [])
    -- values 1, 0, 1 and zeros: the top slice is empty, and its body is there
    ∷ adds three_rows (two 0 1) (two 0 5)
    (1 ∷ 3 ∷ 3 ∷ 9 ∷ 1 ∷ 10 ∷ 2 ∷ 12 ∷ 1 ∷ 0x00000003 ∷ 0x00020000 ∷ 0x5 ∷ 0x00000002 ∷ [])
    -- a column twice
    ∷ adds three_rows (two 0 1) (two 0 1)
    (1 ∷ 3 ∷ 3 ∷ 9 ∷ 1 ∷ 10 ∷ 1 ∷ 11 ∷ 2 ∷ 0x00000003 ∷ 0x00000002 ∷ 0x00020000 ∷ 0x5 ∷ [])
    -- no row exists in both: three empty bitmaps, no value
    ∷ adds three_rows (two 5 5) (two 0 1) (1 ∷ 3 ∷ 3 ∷ 9 ∷ 1 ∷ 10 ∷ 1 ∷ 11 ∷ 1 ∷ 0x00000002 ∷ 0x00000002 ∷ 0x00000002 ∷ [])
    -- an idle marker read, and none written
    ∷ adds idle_rows (two 0 1) (two 0 1)
    (1 ∷ 3 ∷ 3 ∷ 9 ∷ 1 ∷ 10 ∷ 1 ∷ 11 ∷ 2 ∷ 0x00000003 ∷ 0x00000002 ∷ 0x00020000 ∷ 0x2 ∷ [])
    -- 40 rows: row 0 has 3 + 1, rows 1 to 31 have 2 + 0, row 39 has 1 + 1
    ∷ adds forty_rows (triple 0 1 2) (two 0 1)
    (1 ∷ 40 ∷ 4 ∷ 11 ∷ 1 ∷ 12 ∷ 1 ∷ 13 ∷ 3 ∷ 16 ∷ 3
    ∷ 0x00000005 ∷ 0x00000004 ∷ 0x00040000 ∷ 0xFFFFFFFE ∷ 0x00000080 ∷ 0x00020000 ∷ 0x00000001 ∷ 0x00000002 ∷ [])
    -- rows 0 to 31 of the first, with 1 each: row 39 of the second is not in the sum
    ∷ adds forty_rows (two 2 2) (two 0 1)
    (1 ∷ 40 ∷ 3 ∷ 9 ∷ 2 ∷ 11 ∷ 3 ∷ 14 ∷ 3
    ∷ 0x00000003 ∷ 0x00000002 ∷ 0x00020000 ∷ 0xFFFFFFFE ∷ 0x00000002 ∷ 0x00020000 ∷ 0x00000001 ∷ 0x00000002 ∷ [])
    -- 64 rows, all of them with 1 + 1: clean runs alone
    ∷ adds (1 ∷ 64 ∷ 1 ∷ 5 ∷ 1 ∷ 0x00000005 ∷ []) (two 0 0) (two 0 0)
    (1 ∷ 64 ∷ 3 ∷ 9 ∷ 1 ∷ 10 ∷ 1 ∷ 11 ∷ 1 ∷ 0x00000005 ∷ 0x00000004 ∷ 0x00000005 ∷ [])
    -- 40 rows, all of them with 1 + 1, read as a run and as a dirty word, written as runs; then rows 0 to 38 with 1 + 1 and
    -- row 39 with 1 + 0
    ∷ adds tail_rows (two 0 1) (two 1 0)
    (1 ∷ 40 ∷ 3 ∷ 9 ∷ 1 ∷ 10 ∷ 1 ∷ 11 ∷ 1 ∷ 0x00000005 ∷ 0x00000004 ∷ 0x00000005 ∷ [])
    ∷ adds tail_rows (two 1 1) (two 1 2)
    (1 ∷ 40 ∷ 3 ∷ 9 ∷ 1 ∷ 10 ∷ 2 ∷ 12 ∷ 2 ∷ 0x00000005 ∷ 0x00020002 ∷ 0x00000080 ∷ 0x00020003 ∷ 0x0000007F ∷ [])
    -- no rows: the bodies have no words
    ∷ adds no_rows (two 0 1) (two 1 0) (1 ∷ 0 ∷ 3 ∷ 9 ∷ 0 ∷ 9 ∷ 0 ∷ 9 ∷ 0 ∷ [])
    -- 32 slices each, all digits set: twice 4,294,967,295, with 33 slices, in 3 + 68 + 34 words
    ∷ leads_to Sum three_rows (replicate 33 0) (replicate 33 0) 105 (whole 33) 2 8589934590
    ∷ declines Sum three_rows (replicate 33 0) (replicate 33 0) 104 9 0 105
    -- 8: either list is too short, too long for a sum, or names a bitmap that is not there
    ∷ declines Sum three_rows (0 ∷ []) (two 0 1) 99 8 0 0
    ∷ declines Sum three_rows (two 0 1) [] 99 8 0 0
    ∷ declines Sum three_rows (replicate 34 0) (two 0 1) 99 8 0 0
    ∷ declines Sum three_rows (two 0 1) (replicate 34 0) 99 8 0 0
    ∷ declines Sum three_rows (two 0 6) (two 0 1) 99 8 0 0
    ∷ declines Sum three_rows (two 0 1) (two 6 1) 99 8 0 0
    ∷ declines Sum (1 ∷ 3 ∷ 0 ∷ []) (two 0 1) (two 0 1) 99 8 0 0
    -- 11: in the second column, against that column's own existence; the first column first
    ∷ declines Sum three_rows (triple 0 1 2) (triple 3 4 2) 99 11 2 1
    ∷ declines Sum three_rows (two 3 2) (two 3 0) 99 11 2 1
    ∷ declines Sum three_rows (two 3 0) (two 3 2) 99 11 0 1
    ∷ declines Sum forty_rows (triple 0 1 2) (triple 2 2 1) 99 11 1 39
    -- a slice's rows may lie outside the other column's existence
    ∷ adds three_rows (two 0 2) (two 3 4)
    (1 ∷ 3 ∷ 3 ∷ 9 ∷ 2 ∷ 11 ∷ 2 ∷ 13 ∷ 2 ∷ 0x00020000 ∷ 0x5 ∷ 0x00020000 ∷ 0x1 ∷ 0x00020000 ∷ 0x4 ∷ [])
    -- 8 of either before 11 of either
    ∷ declines Sum three_rows (two 3 2) (two 3 6) 99 8 0 0
    ∷ declines Sum three_rows (0 ∷ []) (two 3 2) 99 8 0 0
    -- 11 before 9; 9 with the words needed
    ∷ declines Sum three_rows (two 0 1) (two 3 2) 0 11 2 1
    ∷ declines Sum three_rows (triple 0 1 2) (two 3 4) 0 9 0 18
    -- the index's own faults before 8
    ∷ declines Sum (3 ∷ 3 ∷ 0 ∷ []) [] [] 0 2 0 0
    ∷ []

-- signed values
unfoldable pub signed_readings : List ColumnReading
signed_readings =
    -- one slice, which is the sign: 0 and - 1; two slices: 1, - 2 and - 1; the same slices the other way round
    gives_signed three_rows (two 0 1) 1 (pos 0)
    ∷ gives_signed three_rows (two 0 1) 0 (negsuc 0)
    ∷ gives_signed three_rows (triple 0 1 2) 0 (pos 1)
    ∷ gives_signed three_rows (triple 0 1 2) 1 (negsuc 1)
    ∷ gives_signed three_rows (triple 0 1 2) 2 (negsuc 0)
    ∷ gives_signed three_wah (triple 0 1 2) 1 (negsuc 1)
    ∷ gives_signed three_rows (triple 0 2 1) 0 (negsuc 1)
    ∷ gives_signed three_rows (triple 0 2 1) 1 (pos 1)
    -- 33 slices: all set; the sign alone, and all but the sign, which are the least and the greatest value
    ∷ gives_signed three_rows (replicate 34 0) 1 (negsuc 0)
    ∷ gives_signed three_rows ((0 ∷ replicate 32 5) ++ 0 ∷ []) 1 (negsuc 4294967295)
    ∷ gives_signed three_rows (replicate 33 0 ++ 5 ∷ []) 1 (pos 4294967295)
    -- 32 slices, the sign alone: - 2 ^ 31
    ∷ gives_signed three_rows ((0 ∷ replicate 31 5) ++ 0 ∷ []) 1 (negsuc 2147483647)
    -- the sign's bitmap is the lowest slice too: 1 - 4, 2, and 1 + 2 - 4
    ∷ gives_signed three_rows (0 ∷ triple 1 2 1) 0 (negsuc 2)
    ∷ gives_signed three_rows (0 ∷ triple 1 2 1) 1 (pos 2)
    ∷ gives_signed three_rows (0 ∷ triple 1 2 1) 2 (negsuc 0)
    -- the second segment; a sign that is a run of ones over pad bits
    ∷ gives_signed forty_rows (triple 0 2 1) 39 (negsuc 1)
    ∷ gives_signed tail_rows (two 0 1) 39 (negsuc 0)
    -- 8: the list is too short, too long, or names a bitmap that is not there; no such row, or it does not exist
    ∷ denies_signed three_rows (0 ∷ []) 0 8 0 0
    ∷ denies_signed three_rows (replicate 35 0) 0 8 0 0
    ∷ denies_signed three_rows (two 0 6) 0 8 0 0
    ∷ denies_signed three_rows (two 6 0) 0 8 0 0
    ∷ denies_signed three_rows (triple 0 1 2) 3 8 0 0
    ∷ denies_signed three_rows (two 3 4) 1 8 0 0
    ∷ denies_signed no_rows (two 0 1) 0 8 0 0
    -- 11 behind it, of the sign too; and the index's own faults before it
    ∷ denies_signed three_rows (triple 3 4 2) 2 11 2 1
    ∷ denies_signed three_rows (two 3 2) 1 8 0 0
    ∷ denies_signed (3 ∷ 3 ∷ 0 ∷ []) [] 9 2 0 0
    ∷ []

-- differences, with their sign
unfoldable pub difference_readings : List ColumnReading
difference_readings =
    -- 1, - 1 and 0: two slices of two columns of one
    combines Difference three_rows (two 0 1) (two 0 2)
    (1 ∷ 3 ∷ 3 ∷ 9 ∷ 1 ∷ 10 ∷ 2 ∷ 12 ∷ 2 ∷ 0x00000003 ∷ 0x00020000 ∷ 0x3 ∷ 0x00020000 ∷ 0x2 ∷ [])
    ∷ leads_signed three_rows (two 0 1) (two 0 2) 14 (whole 2) 0 (pos 1)
    ∷ leads_signed three_rows (two 0 1) (two 0 2) 14 (whole 2) 1 (negsuc 0)
    ∷ leads_signed three_rows (two 0 1) (two 0 2) 14 (whole 2) 2 (pos 0)
    -- of 2 slices and of 1: 0 and 2; of 1 and of 2: 0 and - 2; row 1 exists in one alone
    ∷ combines Difference three_rows (triple 0 1 2) (two 3 4)
    (1 ∷ 3 ∷ 4 ∷ 11 ∷ 2 ∷ 13 ∷ 1 ∷ 14 ∷ 2 ∷ 16 ∷ 1
    ∷ 0x00020000 ∷ 0x5 ∷ 0x00000002 ∷ 0x00020000 ∷ 0x4 ∷ 0x00000002 ∷ [])
    ∷ combines Difference three_rows (two 3 4) (triple 0 1 2)
    (1 ∷ 3 ∷ 4 ∷ 11 ∷ 2 ∷ 13 ∷ 1 ∷ 14 ∷ 2 ∷ 16 ∷ 2
    ∷ 0x00020000 ∷ 0x5 ∷ 0x00000002 ∷ 0x00020000 ∷ 0x4 ∷ 0x00020000 ∷ 0x4 ∷ [])
    ∷ combines Difference three_wah (two 3 4) (triple 0 1 2)
    (2 ∷ 3 ∷ 4 ∷ 11 ∷ 1 ∷ 12 ∷ 1 ∷ 13 ∷ 1 ∷ 14 ∷ 1 ∷ 0x5 ∷ 0 ∷ 0x4 ∷ 0x4 ∷ [])
    -- 1 - 1, 2 - 1 and 3 - 1: nothing is negative, and in row 1 the lowest digit borrows
    ∷ combines Difference three_rows (triple 0 1 2) (two 0 0)
    (1 ∷ 3 ∷ 4 ∷ 11 ∷ 1 ∷ 12 ∷ 2 ∷ 14 ∷ 2 ∷ 16 ∷ 1
    ∷ 0x00000003 ∷ 0x00020000 ∷ 0x2 ∷ 0x00020000 ∷ 0x4 ∷ 0x00000002 ∷ [])
    -- at a row that one column alone has there is no difference
    ∷ denies_signed (1 ∷ 3 ∷ 4 ∷ 11 ∷ 2 ∷ 13 ∷ 1 ∷ 14 ∷ 2 ∷ 16 ∷ 2
    ∷ 0x00020000 ∷ 0x5 ∷ 0x00000002 ∷ 0x00020000 ∷ 0x4 ∷ 0x00020000 ∷ 0x4 ∷ []) (whole 3) 1 8 0 0
    -- a column and itself: 0 throughout
    ∷ combines Difference three_rows (triple 0 1 2) (triple 0 1 2)
    (1 ∷ 3 ∷ 4 ∷ 11 ∷ 1 ∷ 12 ∷ 1 ∷ 13 ∷ 1 ∷ 14 ∷ 1 ∷ 0x00000003 ∷ 0x00000002 ∷ 0x00000002 ∷ 0x00000002 ∷ [])
    -- 40 rows: - 2 in rows 0 to 31, and 0; - 1 in all of them, over the last segment's pad bits; - 1 in row 39 alone
    ∷ combines Difference forty_rows (two 0 1) (triple 0 1 2)
    (1 ∷ 40 ∷ 4 ∷ 11 ∷ 1 ∷ 12 ∷ 1 ∷ 13 ∷ 2 ∷ 15 ∷ 2
    ∷ 0x00000005 ∷ 0x00000004 ∷ 0x00000003 ∷ 0x00000002 ∷ 0x00000003 ∷ 0x00000002 ∷ [])
    ∷ combines Difference forty_rows (two 0 3) (two 0 0)
    (1 ∷ 40 ∷ 3 ∷ 9 ∷ 1 ∷ 10 ∷ 1 ∷ 11 ∷ 1 ∷ 0x00000005 ∷ 0x00000005 ∷ 0x00000005 ∷ [])
    ∷ combines Difference tail_rows (two 1 2) (two 1 1)
    (1 ∷ 40 ∷ 3 ∷ 9 ∷ 1 ∷ 10 ∷ 2 ∷ 12 ∷ 2 ∷ 0x00000005 ∷ 0x00020002 ∷ 0x00000080 ∷ 0x00020002 ∷ 0x00000080 ∷ [])
    -- no row exists in both; no rows
    ∷ combines Difference three_rows (two 5 5) (two 0 1)
    (1 ∷ 3 ∷ 3 ∷ 9 ∷ 1 ∷ 10 ∷ 1 ∷ 11 ∷ 1 ∷ 0x00000002 ∷ 0x00000002 ∷ 0x00000002 ∷ [])
    ∷ combines Difference no_rows (two 0 1) (two 1 0) (1 ∷ 0 ∷ 3 ∷ 9 ∷ 0 ∷ 9 ∷ 0 ∷ 9 ∷ 0 ∷ [])
    -- 32 slices: both ends, in 3 + 68 + 34 words
    ∷ leads_signed three_rows (replicate 33 0) (0 ∷ replicate 32 5) 105 (whole 33) 2 (pos 4294967295)
    ∷ leads_signed three_rows (0 ∷ replicate 32 5) (replicate 33 0) 105 (whole 33) 2 (negsuc 4294967294)
    ∷ leads_signed three_rows (two 0 5) (replicate 33 0) 105 (whole 33) 2 (negsuc 4294967294)
    ∷ declines Difference three_rows (replicate 33 0) (two 0 5) 104 9 0 105
    -- refused as a sum is
    ∷ declines Difference three_rows (two 0 1) (replicate 34 0) 99 8 0 0
    ∷ declines Difference three_rows (two 3 2) (two 3 6) 99 8 0 0
    ∷ declines Difference three_rows (two 3 2) (two 3 0) 99 11 2 1
    ∷ declines Difference three_rows (two 0 1) (two 3 2) 0 11 2 1
    ∷ declines Difference (3 ∷ 3 ∷ 0 ∷ []) [] [] 0 2 0 0
    ∷ []

-- the smaller, and the difference or zero
unfoldable pub smaller_readings : List ColumnReading
smaller_readings =
    -- 1 and 0, 0 and 1, 1 and 1: as many slices as the wider has
    combines Smaller three_rows (two 0 1) (two 0 2) (1 ∷ 3 ∷ 2 ∷ 7 ∷ 1 ∷ 8 ∷ 2 ∷ 0x00000003 ∷ 0x00020000 ∷ 0x4 ∷ [])
    ∷ combines DifferenceOrZero three_rows (two 0 1) (two 0 2)
    (1 ∷ 3 ∷ 2 ∷ 7 ∷ 1 ∷ 8 ∷ 2 ∷ 0x00000003 ∷ 0x00020000 ∷ 0x1 ∷ [])
    -- of 2 slices and of 1, both ways: the top slice is empty and its body is there
    ∷ combines Smaller three_rows (triple 0 1 2) (two 3 4)
    (1 ∷ 3 ∷ 3 ∷ 9 ∷ 2 ∷ 11 ∷ 2 ∷ 13 ∷ 1 ∷ 0x00020000 ∷ 0x5 ∷ 0x00020000 ∷ 0x5 ∷ 0x00000002 ∷ [])
    ∷ combines Smaller three_rows (two 3 4) (triple 0 1 2)
    (1 ∷ 3 ∷ 3 ∷ 9 ∷ 2 ∷ 11 ∷ 2 ∷ 13 ∷ 1 ∷ 0x00020000 ∷ 0x5 ∷ 0x00020000 ∷ 0x5 ∷ 0x00000002 ∷ [])
    ∷ combines DifferenceOrZero three_rows (triple 0 1 2) (two 3 4)
    (1 ∷ 3 ∷ 3 ∷ 9 ∷ 2 ∷ 11 ∷ 1 ∷ 12 ∷ 2 ∷ 0x00020000 ∷ 0x5 ∷ 0x00000002 ∷ 0x00020000 ∷ 0x4 ∷ [])
    ∷ combines DifferenceOrZero three_rows (two 3 4) (triple 0 1 2)
    (1 ∷ 3 ∷ 3 ∷ 9 ∷ 2 ∷ 11 ∷ 1 ∷ 12 ∷ 1 ∷ 0x00020000 ∷ 0x5 ∷ 0x00000002 ∷ 0x00000002 ∷ [])
    ∷ combines Smaller three_wah (triple 0 1 2) (two 3 4)
    (2 ∷ 3 ∷ 3 ∷ 9 ∷ 1 ∷ 10 ∷ 1 ∷ 11 ∷ 1 ∷ 0x5 ∷ 0x5 ∷ 0 ∷ [])
    ∷ combines DifferenceOrZero three_wah (triple 0 1 2) (two 3 4)
    (2 ∷ 3 ∷ 3 ∷ 9 ∷ 1 ∷ 10 ∷ 1 ∷ 11 ∷ 1 ∷ 0x5 ∷ 0 ∷ 0x4 ∷ [])
    ∷ combines DifferenceOrZero three_rows (triple 0 1 2) (two 0 0)
    (1 ∷ 3 ∷ 3 ∷ 9 ∷ 1 ∷ 10 ∷ 2 ∷ 12 ∷ 2 ∷ 0x00000003 ∷ 0x00020000 ∷ 0x2 ∷ 0x00020000 ∷ 0x4 ∷ [])
    -- as values, asked by all their numbers
    ∷ leads_to Smaller three_rows (triple 0 1 2) (two 3 4) 14 (whole 2) 2 1
    ∷ leads_to DifferenceOrZero three_rows (triple 0 1 2) (two 3 4) 14 (whole 2) 2 2
    -- a column and itself
    ∷ combines Smaller three_rows (triple 0 1 2) (triple 0 1 2)
    (1 ∷ 3 ∷ 3 ∷ 9 ∷ 1 ∷ 10 ∷ 2 ∷ 12 ∷ 2 ∷ 0x00000003 ∷ 0x00020000 ∷ 0x5 ∷ 0x00020000 ∷ 0x6 ∷ [])
    ∷ combines DifferenceOrZero three_rows (triple 0 1 2) (triple 0 1 2)
    (1 ∷ 3 ∷ 3 ∷ 9 ∷ 1 ∷ 10 ∷ 1 ∷ 11 ∷ 1 ∷ 0x00000003 ∷ 0x00000002 ∷ 0x00000002 ∷ [])
    -- 40 rows: all but row 39 have 1 as the smaller, and it alone has 1 as the rest
    ∷ combines Smaller tail_rows (two 1 1) (two 1 2)
    (1 ∷ 40 ∷ 2 ∷ 7 ∷ 1 ∷ 8 ∷ 2 ∷ 0x00000005 ∷ 0x00020003 ∷ 0x0000007F ∷ [])
    ∷ combines DifferenceOrZero tail_rows (two 1 1) (two 1 2)
    (1 ∷ 40 ∷ 2 ∷ 7 ∷ 1 ∷ 8 ∷ 2 ∷ 0x00000005 ∷ 0x00020002 ∷ 0x00000080 ∷ [])
    -- no row exists in both; no rows
    ∷ combines Smaller three_rows (two 5 5) (two 0 1) (1 ∷ 3 ∷ 2 ∷ 7 ∷ 1 ∷ 8 ∷ 1 ∷ 0x00000002 ∷ 0x00000002 ∷ [])
    ∷ combines DifferenceOrZero three_rows (two 0 1) (two 5 5) (1 ∷ 3 ∷ 2 ∷ 7 ∷ 1 ∷ 8 ∷ 1 ∷ 0x00000002 ∷ 0x00000002 ∷ [])
    ∷ combines Smaller no_rows (two 0 1) (two 1 0) (1 ∷ 0 ∷ 2 ∷ 7 ∷ 0 ∷ 7 ∷ 0 ∷ [])
    ∷ combines DifferenceOrZero no_rows (two 0 1) (two 1 0) (1 ∷ 0 ∷ 2 ∷ 7 ∷ 0 ∷ 7 ∷ 0 ∷ [])
    -- 32 slices, in 3 + 66 + 33 words
    ∷ leads_to Smaller three_rows (replicate 33 0) (replicate 33 0) 102 (whole 32) 2 4294967295
    ∷ leads_to DifferenceOrZero three_rows (replicate 33 0) (two 0 0) 102 (whole 32) 2 4294967294
    ∷ declines Smaller three_rows (replicate 33 0) (two 0 0) 101 9 0 102
    ∷ declines DifferenceOrZero three_rows (two 0 0) (replicate 33 0) 101 9 0 102
    -- refused as a sum is
    ∷ declines Smaller three_rows (replicate 34 0) (two 0 1) 99 8 0 0
    ∷ declines DifferenceOrZero three_rows (two 0 1) (replicate 34 0) 99 8 0 0
    ∷ declines Smaller three_rows (two 3 2) (two 3 6) 99 8 0 0
    ∷ declines DifferenceOrZero three_rows (0 ∷ []) (two 3 2) 99 8 0 0
    ∷ declines Smaller three_rows (two 3 0) (two 3 2) 99 11 0 1
    ∷ declines DifferenceOrZero three_rows (two 0 1) (two 3 2) 0 11 2 1
    ∷ declines Smaller (3 ∷ 3 ∷ 0 ∷ []) [] [] 0 2 0 0
    ∷ declines DifferenceOrZero (3 ∷ 3 ∷ 0 ∷ []) [] [] 0 2 0 0
    ∷ []

-- the k largest
unfoldable pub largest_readings : List ColumnReading
largest_readings =
    -- from none to all that exist: row 3 has 3; of rows 0, 4 and 6, which have 2, the lowest come first; row 1 has 1, and row 7
    -- has 0, as the rows have that do not exist
    picks Largest eight_rows (triple 0 1 2) 0 (0x00000002 ∷ [])
    ∷ picks Largest eight_rows (triple 0 1 2) 1 (lone 0x08)
    ∷ picks Largest eight_rows (triple 0 1 2) 2 (lone 0x09)
    ∷ picks Largest eight_rows (triple 0 1 2) 3 (lone 0x19)
    ∷ picks Largest eight_rows (triple 0 1 2) 4 (lone 0x59)
    ∷ picks Largest eight_rows (triple 0 1 2) 5 (lone 0x5B)
    ∷ picks Largest eight_rows (triple 0 1 2) 6 (lone 0xDB)
    -- the slices the other way round: row 1 has 2, rows 0, 4 and 6 have 1
    ∷ picks Largest eight_rows (triple 0 2 1) 2 (lone 0x0A)
    -- one slice: rows 1 and 3 have 1, the others 0; and then all have 0
    ∷ picks Largest eight_rows (two 0 1) 1 (lone 0x02)
    ∷ picks Largest eight_rows (two 0 1) 3 (lone 0x0B)
    ∷ picks Largest eight_rows (two 0 3) 2 (lone 0x03)
    -- slices that share a bitmap, with each other and with existence
    ∷ picks Largest eight_rows (triple 0 1 1) 4 (lone 0x1B)
    ∷ picks Largest eight_rows (triple 0 0 0) 3 (lone 0x0B)
    -- 32 slices: all of one value; rows 1 and 3 one above the others; rows 0, 3, 4 and 6 with the top digit alone; and these with
    -- the top digit, rows 1 and 3 with all digits below it
    ∷ picks Largest eight_rows (replicate 33 0) 3 (lone 0x0B)
    ∷ picks Largest eight_rows (0 ∷ 1 ∷ replicate 31 0) 1 (lone 0x02)
    ∷ picks Largest eight_rows ((0 ∷ replicate 31 3) ++ 2 ∷ []) 3 (lone 0x19)
    ∷ picks Largest eight_rows ((0 ∷ replicate 31 1) ++ 2 ∷ []) 2 (lone 0x09)
    -- no row exists, and no rows at all: none of them
    ∷ picks Largest eight_rows (two 3 3) 0 (0x00000002 ∷ [])
    ∷ picks Largest no_rows (two 0 1) 0 []
    -- behind an idle marker: row 1 has 1
    ∷ picks Largest idle_rows (two 0 1) 1 (lone 0x2)
    ∷ picks Largest forty_rows (two 1 3) 2 (0x00040000 ∷ 0x00000001 ∷ 0x00000080 ∷ [])
    -- in WAH: none, ties, all that exist
    ∷ picks Largest eight_wah (triple 0 1 2) 0 (0 ∷ [])
    ∷ picks Largest eight_wah (triple 0 1 2) 2 (0x09 ∷ [])
    ∷ picks Largest eight_wah (triple 0 1 2) 6 (0xDB ∷ [])
    ∷ []

-- the k smallest
unfoldable pub smallest_readings : List ColumnReading
smallest_readings =
    -- from none to all that exist: row 7 has 0, row 1 has 1; of rows 0, 4 and 6, which have 2, the lowest come first; row 3 has 3.
    -- Rows 2 and 5 do not exist, and have no value that is the smallest
    picks Smallest eight_rows (triple 0 1 2) 0 (0x00000002 ∷ [])
    ∷ picks Smallest eight_rows (triple 0 1 2) 1 (lone 0x80)
    ∷ picks Smallest eight_rows (triple 0 1 2) 2 (lone 0x82)
    ∷ picks Smallest eight_rows (triple 0 1 2) 3 (lone 0x83)
    ∷ picks Smallest eight_rows (triple 0 1 2) 4 (lone 0x93)
    ∷ picks Smallest eight_rows (triple 0 1 2) 5 (lone 0xD3)
    ∷ picks Smallest eight_rows (triple 0 1 2) 6 (lone 0xDB)
    -- the slices the other way round: row 7 has 0, rows 0, 4 and 6 have 1
    ∷ picks Smallest eight_rows (triple 0 2 1) 2 (lone 0x81)
    -- one slice: rows 1 and 3 have 1, the others 0; and then all have 0
    ∷ picks Smallest eight_rows (two 0 1) 3 (lone 0x51)
    ∷ picks Smallest eight_rows (two 0 1) 5 (lone 0xD3)
    ∷ picks Smallest eight_rows (two 0 3) 5 (lone 0x5B)
    -- slices that share a bitmap, with each other and with existence
    ∷ picks Smallest eight_rows (triple 0 1 1) 4 (lone 0xD1)
    ∷ picks Smallest eight_rows (triple 0 0 0) 3 (lone 0x0B)
    -- 32 slices: all of one value; rows 1 and 3 one above the others; rows 0, 3, 4 and 6 with the top digit alone; and these with
    -- the top digit, rows 1 and 3 with all digits below it
    ∷ picks Smallest eight_rows (replicate 33 0) 3 (lone 0x0B)
    ∷ picks Smallest eight_rows (0 ∷ 1 ∷ replicate 31 0) 5 (lone 0xD3)
    ∷ picks Smallest eight_rows ((0 ∷ replicate 31 3) ++ 2 ∷ []) 3 (lone 0x83)
    ∷ picks Smallest eight_rows ((0 ∷ replicate 31 1) ++ 2 ∷ []) 2 (lone 0x82)
    -- no row exists, and no rows at all: none of them
    ∷ picks Smallest eight_rows (two 3 3) 0 (0x00000002 ∷ [])
    ∷ picks Smallest no_rows (two 0 1) 0 []
    -- behind an idle marker: rows 0 and 2 have 0
    ∷ picks Smallest idle_rows (two 0 1) 2 (lone 0x5)
    -- in WAH: ties, and all that exist
    ∷ picks Smallest eight_wah (triple 0 1 2) 3 (0x83 ∷ [])
    ∷ picks Smallest eight_wah (triple 0 1 2) 6 (0xDB ∷ [])
    ∷ []

-- of 40 and 70 rows: cuts within a run, at its segments' ends and beside them, and over pad bits. They take long to compute, so that the claim
-- stands in `laws`
unfoldable pub long_rank_readings : List ColumnReading
long_rank_readings =
    -- 40 rows of one value, cut at row 32 and on both sides of it, before the last row, and not at all: the last segment is full
    ranks Largest forty_rows (two 0 3) 31 (0x00020000 ∷ 0x7FFFFFFF ∷ 0x00000002 ∷ [])
    ∷ ranks Largest forty_rows (two 0 3) 32 (0x00000003 ∷ 0x00000002 ∷ [])
    ∷ ranks Largest forty_rows (two 0 3) 33 (0x00020003 ∷ 0x00000001 ∷ [])
    ∷ ranks Largest forty_rows (two 0 3) 39 (0x00020003 ∷ 0x0000007F ∷ [])
    ∷ ranks Largest forty_rows (two 0 3) 40 (0x00000005 ∷ [])
    -- rows 0 and 39 have 1, and row 1 is the lowest of the others
    ∷ ranks Largest forty_rows (two 0 1) 3 (0x00040000 ∷ 0x00000003 ∷ 0x00000080 ∷ [])
    -- rows 0 and 39 exist alone
    ∷ ranks Largest forty_rows (two 1 3) 1 (0x00020000 ∷ 0x00000001 ∷ 0x00000002 ∷ [])
    -- all but row 39 exist; and all as a run over the pad bits
    ∷ ranks Largest tail_rows (two 2 2) 39 (0x00020003 ∷ 0x0000007F ∷ [])
    ∷ ranks Largest tail_rows (two 1 0) 40 (0x00000005 ∷ [])
    -- existence in dirty words and a slice as a run over the pad bits: no row strays
    ∷ ranks Smallest tail_rows (two 0 1) 40 (0x00000005 ∷ [])
    -- 70 rows of one value: a run of three segments, cut beside row 64 and at it
    ∷ ranks Largest seventy_rows (two 0 0) 63 (0x00020003 ∷ 0x7FFFFFFF ∷ 0x00000002 ∷ [])
    ∷ ranks Largest seventy_rows (two 0 0) 64 (0x00000005 ∷ 0x00000002 ∷ [])
    -- 40 rows of one value: none; cut at row 31, where a single clean segment is a literal, and on both sides of it, before the
    -- last row, and not at all
    ∷ ranks Largest forty_wah (two 0 3) 0 (0x80000002 ∷ [])
    ∷ ranks Largest forty_wah (two 0 3) 30 (0x3FFFFFFF ∷ 0 ∷ [])
    ∷ ranks Largest forty_wah (two 0 3) 31 (0x7FFFFFFF ∷ 0 ∷ [])
    ∷ ranks Largest forty_wah (two 0 3) 32 (0x7FFFFFFF ∷ 0x00000001 ∷ [])
    ∷ ranks Largest forty_wah (two 0 3) 39 (0x7FFFFFFF ∷ 0x000000FF ∷ [])
    ∷ ranks Largest forty_wah (two 0 3) 40 (0xC0000002 ∷ [])
    -- 70 rows of one value: two full segments are one fill
    ∷ ranks Largest seventy_wah (two 0 0) 62 (0xC0000002 ∷ 0 ∷ [])
    -- 40 rows: 0 to 31 have 1, and the last segment's rows 0; these, and row 0 with them
    ∷ ranks Smallest forty_rows (two 0 2) 8 (0x00000002 ∷ 0x00000003 ∷ [])
    ∷ ranks Smallest forty_rows (two 0 2) 9 (0x00020000 ∷ 0x00000001 ∷ 0x00000003 ∷ [])
    -- rows 0 and 39 have 1: all others
    ∷ ranks Smallest forty_rows (two 0 1) 38 (0x00040000 ∷ 0xFFFFFFFE ∷ 0x0000007F ∷ [])
    -- row 39 alone has 0, beside the pad bits
    ∷ ranks Smallest tail_rows (two 1 2) 1 (0x00020002 ∷ 0x00000080 ∷ [])
    -- 70 rows: 32 to 63 have 1, and the others, before and behind that run, have 0: all these and row 32
    ∷ ranks Smallest seventy_rows (two 0 1) 39 (0x00020003 ∷ 0x00000001 ∷ 0x00000003 ∷ [])
    -- in WAH the last segment's rows have 0: these, and row 0 with them; and where rows 0 and 39 have 1 all others
    ∷ ranks Smallest forty_wah (two 0 2) 9 (0 ∷ 0x000001FF ∷ [])
    ∷ ranks Smallest forty_wah (two 0 2) 10 (0x00000001 ∷ 0x000001FF ∷ [])
    ∷ ranks Smallest forty_wah (two 0 1) 38 (0x7FFFFFFE ∷ 0x000000FF ∷ [])
    ∷ []

-- both, refused
unfoldable pub rank_refusals : List ColumnReading
rank_refusals =
    -- 8: the list is too short, too long, or names a bitmap that is not there
    declines_rank Largest eight_rows [] 0 9 8 0 0
    ∷ declines_rank Largest eight_rows (triple 0 1 2) 4294967295 9 8 0 0
    ∷ declines_rank Largest eight_rows (0 ∷ []) 0 9 8 0 0
    ∷ declines_rank Smallest eight_rows (0 ∷ []) 1 9 8 0 0
    ∷ declines_rank Largest eight_rows (replicate 34 0) 1 9 8 0 0
    ∷ declines_rank Smallest eight_rows (replicate 34 0) 0 9 8 0 0
    ∷ declines_rank Largest eight_rows (two 0 4) 1 9 8 0 0
    ∷ declines_rank Smallest eight_rows (two 4 0) 0 9 8 0 0
    -- 8: one row more than exist, also where rows or pad bits are more; where no row exists; and where there is none
    ∷ declines_rank Largest eight_rows (triple 0 1 2) 7 9 8 0 0
    ∷ declines_rank Smallest eight_rows (triple 0 1 2) 7 9 8 0 0
    ∷ declines_rank Largest forty_rows (two 2 3) 33 9 8 0 0
    ∷ declines_rank Smallest tail_rows (two 1 1) 41 9 8 0 0
    ∷ declines_rank Largest eight_rows (two 3 3) 1 9 8 0 0
    ∷ declines_rank Smallest eight_rows (two 3 3) 1 9 8 0 0
    ∷ declines_rank Largest no_rows (two 0 1) 1 9 8 0 0
    ∷ declines_rank Smallest forty_wah (two 0 3) 41 9 8 0 0
    -- 11: the bitmap's number and the lowest such row, of the first slice that has one; for no rows too
    ∷ declines_rank Largest eight_rows (two 1 2) 2 9 11 2 0
    ∷ declines_rank Smallest eight_rows (triple 2 2 1) 1 9 11 1 1
    ∷ declines_rank Largest eight_rows (triple 2 0 1) 1 9 11 0 1
    ∷ declines_rank Largest eight_rows (two 1 2) 0 9 11 2 0
    ∷ declines_rank Smallest eight_rows (two 3 1) 0 9 11 1 1
    ∷ declines_rank Smallest eight_wah (two 1 2) 1 9 11 2 0
    -- 8 before it: one row more than exist, a bad list
    ∷ declines_rank Largest eight_rows (two 1 2) 3 9 8 0 0
    ∷ declines_rank Smallest eight_rows (two 3 1) 1 9 8 0 0
    ∷ declines_rank Smallest eight_rows (triple 1 2 4) 1 9 8 0 0
    -- 9 behind it, with the words needed, and behind 8
    ∷ declines_rank Largest eight_rows (two 1 2) 2 0 11 2 0
    ∷ declines_rank Smallest eight_rows (two 1 2) 0 0 11 2 0
    ∷ declines_rank Largest eight_rows (triple 0 1 2) 7 0 8 0 0
    ∷ declines_rank Largest eight_rows (triple 0 1 2) 2 0 9 0 2
    ∷ declines_rank Smallest forty_rows (two 1 3) 2 2 9 0 3
    -- the index's own faults before 8: its kind, and a pad bit of a bitmap that is not named
    ∷ declines_rank Largest (3 ∷ 3 ∷ 0 ∷ []) [] 9 9 2 0 0
    ∷ declines_rank Smallest (3 ∷ 3 ∷ 0 ∷ []) [] 0 0 2 0 0
    ∷ declines_rank Largest (1 ∷ 8 ∷ 2 ∷ 7 ∷ 2 ∷ 9 ∷ 2 ∷ 0x00020000 ∷ 0x01 ∷ 0x00020000 ∷ 0x100 ∷ []) (two 0 0) 2 9 7 1 10
    ∷ []

-- all but `long_rank_readings`
unfoldable pub column_readings : List ColumnReading
unfolding new_readings value_readings sum_readings signed_readings difference_readings smaller_readings largest_readings smallest_readings rank_refusals
column_readings =
    new_readings ++ value_readings ++ sum_readings ++ signed_readings ++ difference_readings ++ smaller_readings
    ++ largest_readings ++ smallest_readings ++ rank_refusals
