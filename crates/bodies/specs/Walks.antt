-- How a cursor goes on in a body of either format.
-- Assumes nothing.
use Rattle.std.specs.Prelude.{ℕ, ◌+◌, ◌-◌, ◌≤◌, ◌≡◌, List, []}
use Rattle.meaning.specs.Limits.{most_fill}
use Rattle.meaning.specs.Segment.{fill}
use Rattle.meaning.specs.Piece.{Piece, clean_run, dirty_word}
use Rattle.meaning.specs.Wah.{piece_of}
use Rattle.meaning.specs.Format.{width}
use Rattle.meaning.specs.declared.Format.{Format}
use Rattle.laws.specs.Ahead.{Ahead}
use Rattle.ewah.specs.declared.cursor.Piece as code
use Rattle.ewah.specs.declared.cursor.Piece.TheVariants.{Clean, Dirty}
use Rattle.ewah.specs.declared.cursor.Cursor.{Cursor}
use Rattle.ewah.specs.Cursors.{ValueLow, InOrder, left_of, pieces_from}

-- the piece that the code's stands for, where it is whole
abbrev pub same_as : code.Piece → Piece
same_as (Clean v n) = clean_run v n
same_as (Dirty x) = dirty_word x

-- a dirty word is x
abbrev pub WordIs : code.Piece → (x : ℕ) → Type 0
WordIs (Clean v n) x = Unit {0}
WordIs (Dirty y) x = y ≡ x

-- p is the piece of the WAH word x
pub record PieceIs (x : ℕ) (p : code.Piece) : Type 0 where
  pub same : same_as p ≡ piece_of x
  pub value_low : ValueLow p
  pub left-low : left_of p ≤ most_fill
  pub word-is : WordIs p x

-- the word that every segment of a piece is
abbrev pub word_of : Format → code.Piece → ℕ
word_of F (Clean v n) = fill (width F) v
word_of F (Dirty x) = x

-- how many segments there are up to the next marker or fill; in WAH no dirty words are due, and a literal stands alone
abbrev pub span_by : code.Piece → (dirty : ℕ) → ℕ
span_by (Clean v n) dirty = n
span_by (Dirty x) dirty = dirty + 1

abbrev pub span_of : Cursor → ℕ
span_of c = span_by c.piece c.dirty

-- how many words behind the cursor's the next n of these segments take
abbrev pub behind : code.Piece → (n : ℕ) → ℕ
behind (Clean v k) n = 0
behind (Dirty x) n = n - 1

-- from c to r the cursor went n segments on, wherever it stood
pub record Passes (F : Format) (b : List ℕ) (c : Cursor) (n : ℕ) (r : Cursor) : Type 0 where
  pub in_order : InOrder F b r
  pub on : (o : ℕ) → Ahead F b o (pieces_from F b c) → Ahead F b (o + n) (pieces_from F b r)
  pub at-end : left_of r.piece ≡ 0 → pieces_from F b r ≡ []
