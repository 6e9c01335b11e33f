-- What the rows of words have once the next segments of every place of a list were taken into them.
-- Assumes nothing.
use Rattle.std.specs.Prelude.{ℕ, ◌+◌, ◌*◌, ◌≤◌, ◌<◌, Bool, ◌≡◌, List, length, get_or}
use Rattle.meaning.specs.Limits.{block_segments, block_words}
use Rattle.meaning.specs.Format.{segments_of}
use Rattle.meaning.specs.declared.Format.{Format}
use Rattle.ewah.specs.declared.cursor.Cursor.{Cursor}
use Rattle.block_read.specs.Taken.{word_at}
use Rattle.walk.specs.Queries.{CursorAt, Standing, place_body}

-- a cursor stands somewhere on the body b with n segments ahead of it
abbrev pub StandsBefore : Format → List ℕ → Cursor → ℕ → Type 0
StandsBefore F b c n = (o : ℕ) × CursorAt F b o c × (o + n ≤ length (segments_of F b))

-- all cursors of a list stand at one segment, with n segments ahead of them
abbrev pub StandingBefore : (F : Format) (index list : List ℕ) (cs : List Cursor) (n : ℕ) → Type 0
StandingBefore F index list cs n =
    (o : ℕ) × Standing F index list cs (length list) o
    × ((k : ℕ) → k < length list → o + n ≤ length (segments_of F (place_body index list k)))

-- every place of the list went n segments on, and row k of x' has those of place k; rows behind the list's stay
pub record Gathered (F : Format) (index list : List ℕ) (cs : List Cursor) (n : ℕ) (even : Bool) (x : List ℕ) (cs' : List Cursor)
    (x' : List ℕ) : Type 0 where
  pub long : length cs' ≡ length cs
  pub on : (o : ℕ) → Standing F index list cs (length list) o → Standing F index list cs' (length list) (o + n)
  pub words : (o : ℕ) → Standing F index list cs (length list) o → (k i : ℕ) → k < length list → i < n
      → word_at even x' (k * block_segments) i ≡ get_or (segments_of F (place_body index list k)) (o + i) 0
  pub rows_long : length x' ≡ block_words
  pub rest : (i : ℕ) → length list * block_segments ≤ i → get_or x' i 0 ≡ get_or x i 0
