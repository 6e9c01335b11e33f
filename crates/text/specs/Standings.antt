-- Where the listing of a body's set rows may stand.
-- Assumes nothing.
use Rattle.std.specs.Prelude.{ℕ, ◌*◌, ◌/◌, ◌%◌, ◌≤◌, ◌≡◌, List, [], ◌∷◌, length}
use Rattle.std.specs.Coded.{×_prop, Unit-prop, le_prop, Coded-set, coded_ℕ}
use Rattle.meaning.specs.Limits.{most_segments}
use Rattle.meaning.specs.Piece.{Piece, NoneEmpty}
use Rattle.meaning.specs.Format.{width, pieces_of, segments_of}
use Rattle.meaning.specs.declared.Format.{Format}
use Rattle.ewah.specs.declared.cursor.Cursor.{Cursor}
use Rattle.ewah.specs.declared.cursor.Piece as code
use Rattle.ewah.specs.declared.cursor.Piece.TheVariants.{Clean, Dirty}
use Rattle.ewah.specs.Cursors.{ValueLow, HeldIn}
use Rattle.walk.specs.Queries.{CursorAt}

-- ---- that each of these facts has one proof at most, which a field of a struct has to show

pub NoneEmpty-prop : (ps : List Piece) → IsProp (NoneEmpty ps)
NoneEmpty-prop [] = Unit-prop
NoneEmpty-prop (p ∷ ps) = ×_prop le_prop (NoneEmpty-prop ps)

pub ValueLow-prop : (p : code.Piece) → IsProp (ValueLow p)
ValueLow-prop (Clean v n) = le_prop
ValueLow-prop (Dirty x) = Unit-prop

pub HeldIn-prop : (b : List ℕ) (p : code.Piece) (next : ℕ) → IsProp (HeldIn b p next)
HeldIn-prop b (Clean v n) next = Unit-prop
HeldIn-prop b (Dirty x) next = ×_prop le_prop (Coded-set coded_ℕ _ _)

-- ---- where it may stand

-- the body has segments for R rows, and not too many, and none of its pieces is empty
pub record Covers (F : Format) (body : List ℕ) (R : ℕ) : Type 0 where
  pub some : NoneEmpty (pieces_of F body)
  pub few : length (segments_of F body) ≤ most_segments
  pub all : R ≤ length (segments_of F body) * width F

-- the cursor stands at the segment of the next row, or at the end
pub record Standing (F : Format) (body : List ℕ) (cursor : Cursor) (row bit : ℕ) : Type 0 where
  pub at : CursorAt F body (row / width F) cursor
  pub place : bit ≡ row % width F
  pub within : Covers F body row
