-- The listing of a body's set rows, as it is written chunk by chunk.
-- Assumes nothing.
use Rattle.std.specs.Prelude.{ℕ, ◌+◌, ◌-◌, ◌≤◌, ◌<◌, ◌≡◌, List, [], ◌++◌, length}
use Rattle.meaning.specs.Format.{rows_of}
use Rattle.text.specs.declared.listing.Listing.{Listing}
use Rattle.text.specs.declared.lines.TheConstants.{LINE_BYTES}
use Rattle.text.specs.Lines.{lines_from}

-- the text still to come
abbrev pub lines_left : Listing → List ℕ
lines_left s = lines_from (rows_of s.format s.body.now) s.row (s.rows - s.row)

-- of the same rows of the same body
pub record SameRows (s s' : Listing) : Type 0 where
  pub format : s'.format ≡ s.format
  pub body : s'.body.now ≡ s.body.now
  pub rows : s'.rows ≡ s.rows

-- one step of the listing, with `out` before it: the text in all is the same, and the row is a later one
pub record Stepped (s : Listing) (out : List ℕ) (s' : Listing) (out' : List ℕ) : Type 0 where
  pub of : SameRows s s'
  pub on : s.row < s'.row
  pub same : out ++ lines_left s ≡ out' ++ lines_left s'

-- a chunk of the listing, into a buffer of n bytes
pub record Chunk (n : ℕ) (s : Listing) (out : List ℕ) (s' : Listing) (out' : List ℕ) : Type 0 where
  pub of : SameRows s s'
  pub same : out ++ lines_left s ≡ out' ++ lines_left s'
  -- with room for a line it goes on
  pub on : s.row < s.rows → length out + LINE_BYTES ≤ n → s.row < s'.row

-- chunks one after the other, each into an empty buffer of its own length, from a listing to one that has no row left: their bytes are `text`
pub data Chunks : Listing → List ℕ → Type 0 where
  none : (s : Listing) → s.rows ≤ s.row → Chunks s []
  more : (n : ℕ) (s : Listing) (out : List ℕ) (s' : Listing) (text : List ℕ) → Chunk n s [] s' out → Chunks s' text → Chunks s (out ++ text)

-- they list all that was to come; proved in `proofs/Stepping`
abbrev pub ChunksList : Type 0
ChunksList = (s : Listing) (text : List ℕ) → Chunks s text → text ≡ lines_left s
