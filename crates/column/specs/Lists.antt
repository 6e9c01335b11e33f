-- The list of a column's bitmaps: existence, and then its slices, each a bitmap of the index.
-- Assumes nothing.
use Rattle.std.specs.Prelude.{ℕ, ◌≤◌, ◌<◌, List, length, get_or}
use Rattle.meaning.specs.Index.{row_count, bitmap_count}
use Rattle.meaning.specs.Limits.{least_column, most_value_column}

abbrev pub NamesColumn : (index list : List ℕ) → Type 0
NamesColumn index list =
    (least_column ≤ length list) × (length list ≤ most_value_column)
    × ((i : ℕ) → i < length list → get_or list i 0 < bitmap_count index)

-- and a row of the index
abbrev pub NamesColumnAt : (index list : List ℕ) (row : ℕ) → Type 0
NamesColumnAt index list row =
    (least_column ≤ length list) × (length list ≤ most_value_column)
    × ((i : ℕ) → i < length list → get_or list i 0 < bitmap_count index)
    × (row < row_count index)
