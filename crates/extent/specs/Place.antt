-- Where a segment is written, for the contracts of the walks that find it.
-- Assumes nothing.
use Rattle.std.specs.Prelude.{ℕ, ◌≡◌, List, get_or}
use Rattle.meaning.specs.Piece.{Piece}
use Rattle.meaning.specs.Extent.{span_at}
use Rattle.extent.specs.declared.Place.{Place}

-- segment s of a body with these segments and pieces is written at p
pub record PlaceOf (segs : List ℕ) (ps : List Piece) (s : ℕ) (p : Place) : Type 0 where
  pub word-is : p.word ≡ get_or segs s 0
  pub span-is : record { from = p.from; size = p.size } ≡ span_at 0 ps s
