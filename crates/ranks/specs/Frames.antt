-- One column of a sound index.
-- Assumes nothing.
use Rattle.std.specs.Prelude.{ℕ, ◌≤◌, List, length}
use Rattle.meaning.specs.Limits.{least_column, most_column}
use Rattle.laws.specs.Laws.{IndexFacts}
use Rattle.walk.specs.Queries.{Listed}

-- a column of 1 to 32 slices
pub record Column (index list : List ℕ) : Type 0 where
  pub facts : IndexFacts index
  pub listed : Listed index list
  pub some : least_column ≤ length list
  pub few : length list ≤ most_column
