-- The outcome of every public call but those on columns (`Columns.antt` of `column_meaning`), rewriting (`Rewriting.antt`) and rows
-- that come in batches (`Append.antt` of `batches`), as a function of the words, the arguments and the buffer's length (`room`).
-- Sections "Numbers of refusal" and "Questions over a list" of paper 01. 8 is a bad argument, 9 an answer that does not fit.
-- Assumes nothing.
use Rattle.std.specs.Prelude.{ℕ, suc, ◌-◌, Bool, ◌||◌, length, drop, replicate}
use Rattle.std.proofs.Math.Bool.{false, not}
use mathlib.Core.List.{List, [], ◌∷◌, ◌++◌, map}
use Rattle.std.proofs.Math.Dec.{eqb, leb, ltb}
use Rattle.meaning.specs.Limits.{most_rows, most_named, histogram_counts}
use Rattle.meaning.specs.Rows.{count_below, nth_below}
use Rattle.meaning.specs.Segment.{segment_count, last_limit, last_of, has_row, from_rows}
use Rattle.meaning.specs.Refusal.{Outcome, refused, answer, Verdict, sound, refuse_if, ◌then◌}
use Rattle.meaning.specs.Format.{rows_of, body_fault, canonical}
use Rattle.meaning.specs.declared.Format.{Format}
use Rattle.meaning.specs.declared.Row.{Row}
use Rattle.meaning.specs.Extent.{row_answer}
use Rattle.meaning.specs.Index.{format_of, row_count, bitmap_count, body_at, rows_at, index_fault}
use Rattle.meaning.specs.Question.{intersection, union, symmetric_difference, difference, complement, at_least, by_table, histogram_of, stretches}

-- ---- what a call that writes leaves and reports

-- these words, or 9 with their number if the buffer is shorter
unfoldable pub fits : (room : ℕ) → List ℕ → Outcome (List ℕ)
unfolding refuse_if
fits room words = refuse_if (ltb room (length words)) 9 0 (length words) (answer words)

-- the buffer afterwards: as it was if the call is refused; else the words, and past them its own as they were
unfoldable pub buffer_after : Outcome (List ℕ) → (buffer : List ℕ) → List ℕ
buffer_after (refused number bitmap word) buffer = buffer
buffer_after (answer words) buffer = words ++ drop (length words) buffer

-- the words reported: how many were written, none on a refusal
unfoldable pub words_reported : Outcome (List ℕ) → ℕ
words_reported (refused number bitmap word) = 0
words_reported (answer words) = length words

-- the histogram reported: zeros on a refusal
unfoldable pub histogram_reported : Outcome (List ℕ) → List ℕ
histogram_reported (refused number bitmap word) = replicate histogram_counts 0
histogram_reported (answer counts) = counts

-- the part returned: empty on a refusal
unfoldable pub part_of : Outcome (List ℕ) → List ℕ
part_of (refused number bitmap word) = []
part_of (answer words) = words

-- ---- a question on a body as it is written

-- whether row r is set, and the first and last row of its piece; 8 if there is no such row
unfoldable pub ask_row : Format → (R : ℕ) → List ℕ → (r : ℕ) → Outcome Row
unfolding refuse_if row_answer
ask_row F R body r = refuse_if (leb R r) 8 0 0 (answer (row_answer F R body r))

-- ---- questions on a set of R rows

-- how many rows are set
unfoldable pub ask_count : (R : ℕ) → (ℕ → Bool) → Outcome ℕ
unfolding count_below
ask_count R p = answer (count_below R p)

-- the nth set row, from 0; 8 if there are not so many
unfoldable pub ask_nth : (R : ℕ) → (ℕ → Bool) → (n : ℕ) → Outcome ℕ
unfolding refuse_if count_below nth_below
ask_nth R p n = refuse_if (leb (count_below R p) n) 8 0 0 (answer (nth_below R p n))

-- the plain words
unfoldable pub ask_plain : (R : ℕ) → (ℕ → Bool) → (room : ℕ) → Outcome (List ℕ)
unfolding fits from_rows
ask_plain R p room = fits room (from_rows 32 R p)

-- the canonical body: every call that writes a body ends in this
unfoldable pub write : Format → (R : ℕ) → (ℕ → Bool) → (room : ℕ) → Outcome (List ℕ)
unfolding fits canonical
write F R p room = fits room (canonical F R p)

-- ---- a body alone: its rows are tested first; it is bitmap 0, and places are counted in it

-- 3, word 1: too many rows
unfoldable pub rows_fault : (R : ℕ) → Verdict
unfolding refuse_if
rows_fault R = refuse_if (ltb most_rows R) 3 0 1 sound

module _ (F : Format) (R : ℕ) (body : List ℕ) where
  -- `check_body`
  unfoldable pub check_body : Verdict
  unfolding rows_fault ◌then◌
  check_body = rows_fault R then body_fault F 0 0 R body

  -- `body_row`
  unfoldable pub body_row : (r : ℕ) → Outcome Row
  unfolding check_body ◌then◌ ask_row
  body_row r = check_body then ask_row F R body r

  -- `body_count`
  unfoldable pub body_count : Outcome ℕ
  unfolding check_body ◌then◌ ask_count rows_of
  body_count = check_body then ask_count R (rows_of F body)

  -- `body_nth`
  unfoldable pub body_nth : (n : ℕ) → Outcome ℕ
  unfolding check_body ◌then◌ ask_nth rows_of
  body_nth n = check_body then ask_nth R (rows_of F body) n

  -- `expand`
  unfoldable pub expand : (room : ℕ) → Outcome (List ℕ)
  unfolding check_body ◌then◌ ask_plain rows_of
  expand room = check_body then ask_plain R (rows_of F body) room

-- the faults of plain words: 3 for the rows, 8 unless they are as many as the rows take, 32 in each, 7 at the last one, the only
-- one with pad bits, if one of these is set
unfoldable pub plain_fault : (R : ℕ) → List ℕ → Verdict
unfolding rows_fault ◌then◌ refuse_if segment_count last_limit last_of
plain_fault R plain =
    rows_fault R then
    refuse_if (not (eqb (length plain) (segment_count 32 R))) 8 0 0
    (refuse_if (leb (last_limit 32 R) (last_of plain)) 7 0 (length plain - 1)
    sound)

-- `compress`
unfoldable pub compress : Format → (R : ℕ) → (plain : List ℕ) → (room : ℕ) → Outcome (List ℕ)
unfolding plain_fault ◌then◌ has_row write
compress F R plain room = plain_fault R plain then write F R (has_row 32 plain) room

-- ---- an index: the whole of it is checked first, whatever is asked

-- a symmetric table has an entry that is neither 0 nor 1
unfoldable pub bad_entry : List ℕ → Bool
bad_entry [] = false
bad_entry (x ∷ xs) = ltb 1 x || bad_entry xs

module _ (index : List ℕ) where
  -- `check`
  unfoldable pub check : Verdict
  unfolding index_fault
  check = index_fault index

  -- there is no bitmap k
  unfoldable pub bad_bitmap : (k : ℕ) → Bool
  unfolding bitmap_count
  bad_bitmap k = leb (bitmap_count index) k

  -- `bitmap_refusal`: why `bitmap` returns an empty part, or that it was not refused
  unfoldable pub bitmap_refusal : (k : ℕ) → Verdict
  unfolding check bad_bitmap ◌then◌ refuse_if
  bitmap_refusal k = check then refuse_if (bad_bitmap k) 8 0 0 sound

  -- `bitmap`: the words of the part that is bitmap k's body
  unfoldable pub bitmap : (k : ℕ) → Outcome (List ℕ)
  unfolding bitmap_refusal ◌then◌ body_at
  bitmap k = bitmap_refusal k then answer (body_at index k)

  -- `row`
  unfoldable pub row : (k r : ℕ) → Outcome Row
  unfolding bitmap_refusal ◌then◌ ask_row row_count body_at
  row k r = bitmap_refusal k then ask_row (format_of index) (row_count index) (body_at index k) r

  -- `count`
  unfoldable pub count : (k : ℕ) → Outcome ℕ
  unfolding bitmap_refusal ◌then◌ ask_count row_count rows_at
  count k = bitmap_refusal k then ask_count (row_count index) (rows_at index k)

  -- `nth`
  unfoldable pub nth : (k n : ℕ) → Outcome ℕ
  unfolding bitmap_refusal ◌then◌ ask_nth row_count rows_at
  nth k n = bitmap_refusal k then ask_nth (row_count index) (rows_at index k) n

  -- `expand_bitmap`
  unfoldable pub expand_bitmap : (k room : ℕ) → Outcome (List ℕ)
  unfolding bitmap_refusal ◌then◌ ask_plain row_count rows_at
  expand_bitmap k room = bitmap_refusal k then ask_plain (row_count index) (rows_at index k) room

  -- ---- logical questions. `ask..` is what is left to be asked of a sound index

  -- of two bitmaps; 8 if one of them is not there
  unfoldable pub ask_logical : ((ℕ → Bool) → (ℕ → Bool) → ℕ → Bool) → (j k room : ℕ) → Outcome (List ℕ)
  unfolding bad_bitmap refuse_if write row_count rows_at
  ask_logical op j k room =
      refuse_if (bad_bitmap j || bad_bitmap k) 8 0 0
      (write (format_of index) (row_count index) (op (rows_at index j) (rows_at index k)) room)

  unfoldable pub logical : ((ℕ → Bool) → (ℕ → Bool) → ℕ → Bool) → (j k room : ℕ) → Outcome (List ℕ)
  unfolding check ◌then◌ ask_logical
  logical op j k room = check then ask_logical op j k room

  -- `and`
  unfoldable pub and : (j k room : ℕ) → Outcome (List ℕ)
  unfolding logical intersection
  and = logical intersection

  -- `or`
  unfoldable pub or : (j k room : ℕ) → Outcome (List ℕ)
  unfolding logical union
  or = logical union

  -- `xor`
  unfoldable pub xor : (j k room : ℕ) → Outcome (List ℕ)
  unfolding logical symmetric_difference
  xor = logical symmetric_difference

  -- `and_not`
  unfoldable pub and_not : (j k room : ℕ) → Outcome (List ℕ)
  unfolding logical difference
  and_not = logical difference

  -- of one bitmap; 8 if it is not there
  unfoldable pub ask_not : (k room : ℕ) → Outcome (List ℕ)
  unfolding bad_bitmap refuse_if write row_count rows_at complement
  ask_not k room = refuse_if (bad_bitmap k) 8 0 0 (write (format_of index) (row_count index) (complement (rows_at index k)) room)

  -- `not`
  unfoldable pub not_of : (k room : ℕ) → Outcome (List ℕ)
  unfolding check ◌then◌ ask_not
  not_of k room = check then ask_not k room

  -- ---- a list of bitmap numbers

  -- it names a bitmap that is not there
  unfoldable pub any_bad : List ℕ → Bool
  unfolding bad_bitmap
  any_bad [] = false
  any_bad (k ∷ ks) = bad_bitmap k || any_bad ks

  -- it is empty, too long, or names a bitmap that is not there
  unfoldable pub bad_list : List ℕ → Bool
  unfolding any_bad
  bad_list list = eqb (length list) 0 || ltb most_named (length list) || any_bad list

  -- the sets of rows that it names, in order, a set as often as its bitmap is named
  unfoldable pub named : List ℕ → List (ℕ → Bool)
  unfolding rows_at
  named list = map (rows_at index) list

  -- their bodies
  unfoldable pub named_bodies : List ℕ → List (List ℕ)
  unfolding body_at
  named_bodies list = map (body_at index) list

  -- the rows of a threshold answer
  unfoldable pub right_rows : (list : List ℕ) (T : ℕ) → ℕ → Bool
  unfolding at_least named
  right_rows list T = at_least T (named list)

  -- a threshold question's arguments are bad: its list is, or T is 0 or above the list's length
  unfoldable pub bad_threshold : (list : List ℕ) (T : ℕ) → Bool
  unfolding bad_list
  bad_threshold list T = bad_list list || eqb T 0 || ltb (length list) T

  unfoldable pub ask_threshold : (list : List ℕ) (T room : ℕ) → Outcome (List ℕ)
  unfolding bad_threshold refuse_if write row_count right_rows
  ask_threshold list T room = refuse_if (bad_threshold list T) 8 0 0 (write (format_of index) (row_count index) (right_rows list T) room)

  -- `threshold`
  unfoldable pub threshold : (list : List ℕ) (T room : ℕ) → Outcome (List ℕ)
  unfolding check ◌then◌ ask_threshold
  threshold list T room = check then ask_threshold list T room

  -- a symmetric question's arguments are bad: its list is, or the table has not one entry more than the list, each 0 or 1
  unfoldable pub bad_symmetric : (list table : List ℕ) → Bool
  unfolding bad_list bad_entry
  bad_symmetric list table = bad_list list || not (eqb (length table) (suc (length list))) || bad_entry table

  unfoldable pub ask_symmetric : (list table : List ℕ) (room : ℕ) → Outcome (List ℕ)
  unfolding bad_symmetric refuse_if write row_count by_table named
  ask_symmetric list table room =
      refuse_if (bad_symmetric list table) 8 0 0 (write (format_of index) (row_count index) (by_table table (named list)) room)

  -- `symmetric`
  unfoldable pub symmetric : (list table : List ℕ) (room : ℕ) → Outcome (List ℕ)
  unfolding check ◌then◌ ask_symmetric
  symmetric list table room = check then ask_symmetric list table room

  unfoldable pub ask_histogram : (list : List ℕ) → Outcome (List ℕ)
  unfolding bad_list refuse_if histogram_of row_count named
  ask_histogram list = refuse_if (bad_list list) 8 0 0 (answer (histogram_of (row_count index) (named list)))

  -- `histogram`
  unfoldable pub histogram : (list : List ℕ) → Outcome (List ℕ)
  unfolding check ◌then◌ ask_histogram
  histogram list = check then ask_histogram list

  -- the stretches that a threshold or symmetric answer reports: none on a refusal
  unfoldable pub stretches_reported : (list : List ℕ) → Outcome (List ℕ) → ℕ
  unfolding stretches row_count named_bodies
  stretches_reported list (refused number bitmap word) = 0
  stretches_reported list (answer words) = stretches (format_of index) (row_count index) (named_bodies list)
