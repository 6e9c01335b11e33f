-- A word of a body in code: a fill's fields, and what the word spells.
-- Assumes nothing.
use Rattle.std.specs.Prelude.{ℕ, ◌≤◌, ◌<◌, ◌≡◌, replicate, [], ◌∷◌}
use Rattle.meaning.specs.Limits.{most_fill}
use Rattle.meaning.specs.Piece.{piece_size}
use Rattle.meaning.specs.Wah.{fill_value, fill_count, piece_of, wah_segments}
use Rattle.wah.specs.declared.word.Fill.{Fill}

-- they are those of the word x, and fit their bits
pub record FieldsOf (x : ℕ) (f : Fill) : Type 0 where
  pub value-is : f.value ≡ fill_value x
  pub count-is : f.count ≡ fill_count x
  pub value_low : f.value < 2
  pub count_low : f.count ≤ most_fill

-- every segment that the word x spells has the word y
abbrev pub Spells : (x y : ℕ) → Type 0
Spells x y = wah_segments (x ∷ []) ≡ replicate (piece_size (piece_of x)) y
