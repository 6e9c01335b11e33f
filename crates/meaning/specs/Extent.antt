-- The rows of the piece that a row lies in, as the body is written: the first and the last of them. Request 5 of paper 02.
-- A piece is a way of writing. Rows before and after it may be alike, and those of a dirty word may differ.
-- Assumes nothing.
use Rattle.std.specs.Prelude.{ℕ, ◌+◌, ◌-◌, ◌*◌, ◌/◌, min, Bool, cond, List, [], ◌∷◌, map, ltb}
use Rattle.meaning.specs.Piece.{Piece, piece_size}
use Rattle.meaning.specs.Format.{width, pieces_of, rows_of}
use Rattle.meaning.specs.declared.Format.{Format}
use Rattle.meaning.specs.declared.Row.{Row}

-- the segments of a piece: how many come before them, and how many they are
pub record Span : Type 0 where
  pub from : ℕ
  pub size : ℕ

-- its rows: the first and the last
pub record Extent : Type 0 where
  pub first : ℕ
  pub last : ℕ

-- of each piece, in order, where `before` segments come before the first
unfoldable pub spans_from : (before : ℕ) → List Piece → List Span
unfolding piece_size
spans_from before [] = []
spans_from before (p ∷ ps) = record { from = before; size = piece_size p } ∷ spans_from (before + piece_size p) ps

-- of the piece that has segment s: the first that does not end before it. Where there is none, as no row of a sound body meets, no segments
unfoldable pub span_at : (before : ℕ) → List Piece → (s : ℕ) → Span
unfolding piece_size
span_at before [] s = record { from = 0; size = 0 }
span_at before (p ∷ ps) s =
    cond (ltb s (before + piece_size p)) (record { from = before; size = piece_size p }) (span_at (before + piece_size p) ps s)

-- the rows of segments of w rows, cut at the last of R
abbrev pub extent_of : (w R : ℕ) → Span → Extent
extent_of w R s = record { first = s.from * w; last = min R ((s.from + s.size) * w) - 1 }

-- of all pieces of a body of R rows, in order
abbrev pub extents_of : Format → (R : ℕ) → List ℕ → List Extent
extents_of F R b = map (extent_of (width F) R) (spans_from 0 (pieces_of F b))

-- of the piece that row r lies in, by its segment
abbrev pub extent_in : Format → (R : ℕ) → List ℕ → (r : ℕ) → Extent
extent_in F R b r = extent_of (width F) R (span_at 0 (pieces_of F b) (r / width F))

-- the answer on a row that is set or not, in a piece with these rows
abbrev pub answer_with : Bool → Extent → Row
answer_with set e = record { set = set; first = e.first; last = e.last }

-- and back: what such an answer gives of the piece
abbrev pub given : Row → Extent
given t = record { first = t.first; last = t.last }

-- the answer on row r: whether it is set, and the first and last row of its piece
unfoldable pub row_answer : Format → (R : ℕ) → List ℕ → (r : ℕ) → Row
unfolding rows_of span_at
row_answer F R b r = answer_with (rows_of F b r) (extent_in F R b r)
