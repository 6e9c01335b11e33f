-- The two formats of a body under one set of names: what each means by width, pieces, segments, rows, first fault and canonical form.
-- But for `format_of`, which tells them by word 0, index, questions, answers and demands speak of a format alone. Request 4.
-- Assumes nothing.
use Rattle.std.specs.Prelude.{ℕ, Bool, ◌≡◌, List}
use Rattle.meaning.specs.Limits.{ewah_kind, wah_kind, most_clean, most_fill}
use Rattle.meaning.specs.Segment.{Segment, has_row, kinds, from_rows}
use Rattle.meaning.specs.Refusal.{Verdict, sound}
use Rattle.meaning.specs.Piece.{Piece}
use Rattle.meaning.specs.Ewah.{pieces, decode, segments, ewah_fault}
use Rattle.meaning.specs.Canonical.{ewah_of}
use Rattle.meaning.specs.Wah.{wah_pieces, wah_segments, wah_fault, wah_of}
use Rattle.meaning.specs.declared.Format.{Format}
use Rattle.meaning.specs.declared.Format.TheVariants.{Ewah, Wah}

-- what word 0 of an index states
abbrev pub kind_of : Format → ℕ
kind_of Ewah = ewah_kind
kind_of Wah = wah_kind

-- rows of a segment
abbrev pub width : Format → ℕ
width Ewah = 32
width Wah = 31

-- the most segments of one clean run
abbrev pub most_run : Format → ℕ
most_run Ewah = most_clean
most_run Wah = most_fill

-- the pieces of a body, in order
abbrev pub pieces_of : Format → List ℕ → List Piece
pieces_of Ewah b = pieces 0 b
pieces_of Wah b = wah_pieces b

-- the segments that they spell: `spells` of `BodyLaws`
abbrev pub segments_of : Format → List ℕ → List ℕ
segments_of Ewah b = segments b
segments_of Wah b = wah_segments b

-- the rows of a body; only those below R are asked for, so a run of ones over the last segment means its real rows
unfoldable pub rows_of : Format → List ℕ → ℕ → Bool
unfolding has_row decode wah_segments
rows_of F b r = has_row (width F) (segments_of F b) r

-- the first fault of bitmap number `bitmap`, a body of R rows whose first word has the place `place`
abbrev pub body_fault : Format → (bitmap place R : ℕ) → List ℕ → Verdict
body_fault Ewah bitmap place R b = ewah_fault bitmap place R b
body_fault Wah bitmap place R b = wah_fault bitmap place R b

-- a body of R rows has no fault
abbrev pub Sound : Format → (R : ℕ) → List ℕ → Type 0
Sound F R b = body_fault F 0 0 R b ≡ sound

-- the words of the segments of R rows in canonical form
abbrev pub words_of : Format → (R : ℕ) → List Segment → List ℕ
words_of Ewah R ss = ewah_of ss
words_of Wah R ss = wah_of R ss

-- the canonical body of the R rows p (paper 01: settled form): what every call that writes a body writes
unfoldable pub canonical : Format → (R : ℕ) → (ℕ → Bool) → List ℕ
unfolding kinds from_rows ewah_of wah_of
canonical F R p = words_of F R (kinds (width F) R (from_rows (width F) R p))

-- a body of R rows is in canonical form
abbrev pub Canonical : Format → (R : ℕ) → List ℕ → Type 0
Canonical F R b = b ≡ canonical F R (rows_of F b)
