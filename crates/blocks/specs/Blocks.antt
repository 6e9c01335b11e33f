-- The next segments of the places of one list, as a block: how many there are, and what its words are.
-- Assumes nothing.
use Rattle.std.specs.Prelude.{ℕ, ◌+◌, ◌*◌, ◌≤◌, ◌<◌, Bool, true, false, ◌≡◌, List, length, get_or}
use Rattle.meaning.specs.Limits.{block_segments, block_words}
use Rattle.meaning.specs.Segment.{is_set}
use Rattle.meaning.specs.Format.{width, most_run, segments_of}
use Rattle.meaning.specs.Index.{format_of}
use Rattle.ewah.specs.declared.cursor.Cursor.{Cursor}
use Rattle.block_read.specs.Taken.{word_at}
use Rattle.walk.specs.Queries.{Standing, place_body}

-- the next n segments from segment o on, up to `end` at most, where no piece ends before `near`: several and all within
-- the pieces, or at most a block's
pub record Chosen (near end o n : ℕ) (even : Bool) : Type 0 where
  pub some : 1 ≤ n
  pub within : o + n ≤ end
  pub in_pieces : even ≡ true → n ≤ near
  pub in-runs : even ≡ true → block_segments ≤ near
  pub several : even ≡ true → 2 ≤ n
  pub in_block : even ≡ false → n ≤ block_segments

-- each place has a cursor, which stands at segment o of its body; there may be more cursors behind these
pub record Placed (index list : List ℕ) (cs : List Cursor) (o : ℕ) : Type 0 where
  pub standing : Standing (format_of index) index list cs (length list) o
  pub long : length list ≤ length cs

-- there is a cursor for each place, and every one stands at segment o of its body
pub record Walking (index list : List ℕ) (cs : List Cursor) (o : ℕ) : Type 0 where
  pub standing : Standing (format_of index) index list cs (length list) o
  pub long : length cs ≡ length list

-- a block whose rows past a list's are empty
pub record Cleared (list x : List ℕ) : Type 0 where
  pub long : length x ≡ block_words
  pub past : (i : ℕ) → length list * block_segments ≤ i → get_or x i 0 ≡ 0

-- the rows of x are the words of a list's places in the n segments from o on, and 0 past the list
pub record BlockOf (index list : List ℕ) (o n : ℕ) (even : Bool) (x : List ℕ) : Type 0 where
  pub has : (k i : ℕ) → k < length list → i < n
      → word_at even x (k * block_segments) i ≡ get_or (segments_of (format_of index) (place_body index list k)) (o + i) 0
  pub rest : (i : ℕ) → length list * block_segments ≤ i → get_or x i 0 ≡ 0

-- of each row's first word the first w bits are alike
abbrev pub AllAlike : (w : ℕ) → List ℕ → Type 0
AllAlike w x =
    (k j : ℕ) → j < w → is_set (get_or x (k * block_segments + 0) 0) j ≡ is_set (get_or x (k * block_segments + 0) 0) 0

-- the n segments from o on, none behind `end`, became the block x', in a run one clean word for each place, and the
-- cursors went on: At says where they stand
pub record NextAt (At : ℕ → Type 0) (index list : List ℕ) (o end n : ℕ) (even : Bool) (x' : List ℕ) : Type 0 where
  pub some : 1 ≤ n
  pub within : o + n ≤ end
  pub in_block : even ≡ false → n ≤ block_segments
  pub several : even ≡ true → 2 ≤ n
  pub in-run : n ≤ most_run (format_of index)
  pub walking : At (o + n)
  pub cleared : Cleared list x'
  pub block : BlockOf index list o n even x'
  pub alike : even ≡ true → AllAlike (width (format_of index)) x'

-- in a slice that may have more cursors than the list has places
abbrev pub NextPlaced : (index list : List ℕ) (o end n : ℕ) (even : Bool) (cs' : List Cursor) (x' : List ℕ) → Type 0
NextPlaced index list o end n even cs' x' = NextAt (Placed index list cs') index list o end n even x'

-- in a slice that has just as many
abbrev pub NextBlock : (index list : List ℕ) (o end n : ℕ) (even : Bool) (cs' : List Cursor) (x' : List ℕ) → Type 0
NextBlock index list o end n even cs' x' = NextAt (Walking index list cs') index list o end n even x'
