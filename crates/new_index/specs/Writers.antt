-- The writers of several bodies, and the parts of one buffer that are theirs.
-- Assumes nothing.
use Rattle.std.specs.Prelude.{ℕ, ◌+◌, ◌-◌, ◌*◌, ◌≤◌, ◌<◌, Bool, ◌≡◌, List, length, get_or, take, drop}
use Rattle.meaning.specs.Limits.{block_segments}
use Rattle.meaning.specs.Segment.{Segment}
use Rattle.meaning.specs.declared.Format.{Format}
use Rattle.ewah_write.specs.declared.writer.Writer.{Writer}
use Rattle.body_write.specs.Bodies.{Emitted}
use Rattle.block_write.specs.Rowed.{row_segments, row_length}

-- the writer at place i
abbrev pub no_writer : Writer
no_writer = record { used = 0; at = 0; last = record { value = 0; clean = 0; dirty = 0 } }

abbrev pub writer_of : List Writer → ℕ → Writer
writer_of ws i = get_or ws i no_writer

-- the starts of `count` bodies and the end of the last, in order, within a buffer of n words
pub record Laid (starts : List ℕ) (count n : ℕ) : Type 0 where
  pub many : count < length starts
  pub rising : (i j : ℕ) → i ≤ j → j ≤ count → get_or starts i 0 ≤ get_or starts j 0
  pub within : get_or starts count 0 ≤ n

-- the part of the buffer that is body i's
abbrev pub region : (starts out : List ℕ) (i : ℕ) → List ℕ
region starts out i = take (get_or starts (i + 1) 0 - get_or starts i 0) (drop (get_or starts i 0) out)

-- the segments of row i
unfoldable pub row_of : Format → (rows : List ℕ) (n : ℕ) (even : Bool) (i : ℕ) → List Segment
row_of F rows n even i = row_segments F (take (row_length n even) (drop (i * block_segments) rows)) n even

-- the first `count` bodies got the segments `ss`, the last of which has `real` rows, each in its own part, and what lies before and
-- behind all parts stays
pub record EmittedAll (F : Format) (real : ℕ) (starts out out' : List ℕ) (ws ws' : List Writer) (count : ℕ) (ss : ℕ → List Segment)
    (store : Bool) : Type 0 where
  pub long : length out' ≡ length out
  pub writers-long : length ws' ≡ length ws
  pub each : (i : ℕ) → i < count
      → Emitted F real (region starts out i) (region starts out' i) (writer_of ws i) (ss i) store (writer_of ws' i)
  pub others : (i : ℕ) → count ≤ i → writer_of ws' i ≡ writer_of ws i
  pub front : take (get_or starts 0 0) out' ≡ take (get_or starts 0 0) out
  pub back : drop (get_or starts count 0) out' ≡ drop (get_or starts count 0) out
