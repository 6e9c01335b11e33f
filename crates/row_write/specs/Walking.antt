-- The rows of the piece that a cursor stands on.
-- Assumes nothing.
use Rattle.std.specs.Prelude.{ℕ, ◌≤◌, ◌<◌, Bool, eqb}
use Rattle.meaning.specs.Segment.{is_set}
use Rattle.ewah.specs.declared.cursor.Piece as code
use Rattle.ewah.specs.declared.cursor.Piece.TheVariants.{Clean, Dirty}

-- row j of the piece is set
abbrev pub row_in : code.Piece → (j : ℕ) → Bool
row_in (Clean v n) j = eqb v 1
row_in (Dirty x) j = is_set x j

-- k rows can be taken of it: a run's value is 0 or 1, and a word has no more than its bits
abbrev pub Gives : code.Piece → (k : ℕ) → Type 0
Gives (Clean v n) k = v < 2
Gives (Dirty x) k = k ≤ 32
