-- A writer that takes rows in batches: its state, the outcome of a batch, and what state and buffer are afterwards.
-- Request 9 of paper 02, whose term for the canonical form is settled form.
-- Assumes nothing.
use Rattle.std.specs.Prelude.{ℕ, ◌+◌, ◌-◌, Bool, true, false, cond, not, ◌&&◌, ◌||◌, eqb, ltb, length, take}
use mathlib.Core.List.{List, [], ◌∷◌, foldl}
use Rattle.meaning.specs.Limits.{most_rows}
use Rattle.meaning.specs.Segment.{has_row}
use Rattle.meaning.specs.Refusal.{Outcome, refused, answer, refuse_if, ◌then◌}
use Rattle.meaning.specs.Format.{rows_of, canonical}
use Rattle.meaning.specs.declared.Format.TheVariants.{Ewah}
use Rattle.meaning.specs.Answer.{plain_fault, write, buffer_after}
use Rattle.batches.specs.declared.AppendState.{AppendState}

-- `begin`: a writer that begins on a buffer, with no rows and no words in use; the buffer stays as it is
abbrev pub begun : List ℕ → AppendState
begun buffer = record { room = length buffer; rows = 0; words = 0 }

-- the words in use, which are the body so far
abbrev pub in_use : AppendState → List ℕ → List ℕ
in_use s buffer = take s.words buffer

-- ---- refusal 12: this state and this buffer do not belong together

unfoldable pub same_words : List ℕ → List ℕ → Bool
same_words [] [] = true
same_words [] (y ∷ ys) = false
same_words (x ∷ xs) [] = false
same_words (x ∷ xs) (y ∷ ys) = eqb x y && same_words xs ys

-- b is the canonical EWAH body of its own R rows
unfoldable pub is_canonical : (R : ℕ) → List ℕ → Bool
unfolding same_words canonical rows_of
is_canonical R b = same_words b (canonical Ewah R (rows_of Ewah b))

-- the buffer has another length than the one that the writer began with; the rows accepted pass the limit; the words in use pass
-- the buffer; or they are no canonical body of the rows accepted
unfoldable pub mismatched : AppendState → List ℕ → Bool
unfolding is_canonical
mismatched s buffer =
    not (eqb (length buffer) s.room)
    || ltb most_rows s.rows
    || ltb (length buffer) s.words
    || not (is_canonical s.rows (in_use s buffer))

-- ---- a batch: a number of rows, and their plain words

pub record Batch : Type 0 where
  pub rows : ℕ
  pub plain : List ℕ

-- the rows p below R, and behind them the rows q
unfoldable pub followed : (R : ℕ) → (p q : ℕ → Bool) → ℕ → Bool
followed R p q r = cond (ltb r R) (p r) (q (r - R))

-- the rows so far, which are those of the body in use, and then the batch's
abbrev pub rows_with : AppendState → (buffer : List ℕ) → Batch → ℕ → Bool
rows_with s buffer b = followed s.rows (rows_of Ewah (in_use s buffer)) (has_row 32 b.plain)

-- `append`: the words of the canonical body of all rows so far; or 12, 3, 8, 7 or 9, in this order. 3 is of all rows together, added
-- as numbers; where they are few enough the batch's own are, so that `plain_fault` gives 8 and 7 alone
unfoldable pub append : AppendState → (buffer : List ℕ) → Batch → Outcome (List ℕ)
unfolding mismatched refuse_if ◌then◌ plain_fault write followed
append s buffer b =
    refuse_if (mismatched s buffer) 12 0 0
    (refuse_if (ltb most_rows (s.rows + b.rows)) 3 0 1
    (plain_fault b.rows b.plain then
    write Ewah (s.rows + b.rows) (rows_with s buffer b) (length buffer)))

-- the state afterwards: as it was if the batch is refused; else with the batch's rows, and the words of the body. The buffer
-- afterwards is `buffer_after`, as of every call that writes
unfoldable pub state_after : Outcome (List ℕ) → AppendState → (rows : ℕ) → AppendState
state_after (refused number bitmap word) s k = s
state_after (answer words) s k = record { room = s.room; rows = s.rows + k; words = length words }

-- ---- batch after batch

-- what the caller keeps between two batches: the state and the buffer
pub record Kept : Type 0 where
  pub state : AppendState
  pub buffer : List ℕ

abbrev pub start_on : List ℕ → Kept
start_on buffer = record { state = begun buffer; buffer = buffer }

abbrev pub outcome_of : Kept → Batch → Outcome (List ℕ)
outcome_of k b = append k.state k.buffer b

-- as both are left
unfoldable pub after_batch : Kept → Batch → Kept
unfolding append state_after buffer_after
after_batch k b =
    record { state = state_after (outcome_of k b) k.state b.rows; buffer = buffer_after (outcome_of k b) k.buffer }

-- all batches in turn; nothing but the writer changes either in between
abbrev pub after_all : Kept → List Batch → Kept
after_all k bs = foldl after_batch k bs

unfoldable pub is_accepted : Outcome (List ℕ) → Bool
is_accepted (refused number bitmap word) = false
is_accepted (answer words) = true

-- those of the batches that are accepted, where all are offered in turn
unfoldable pub accepted_of : Kept → List Batch → List Batch
unfolding is_accepted after_batch append
accepted_of k [] = []
accepted_of k (b ∷ bs) = cond (is_accepted (outcome_of k b)) (b ∷ accepted_of (after_batch k b) bs) (accepted_of (after_batch k b) bs)

-- how many rows the batches have, and which are set
unfoldable pub all_rows : List Batch → ℕ
all_rows [] = 0
all_rows (b ∷ bs) = b.rows + all_rows bs

unfoldable pub rows_across : List Batch → ℕ → Bool
unfolding followed has_row
rows_across [] r = false
rows_across (b ∷ bs) r = followed b.rows (has_row 32 b.plain) (rows_across bs) r
