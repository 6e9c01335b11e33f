-- What is found of a column: its top slices as a column, the k-th value, and the row where the rows of that value are cut.
-- Assumes nothing.
use Rattle.std.specs.Prelude.{ℕ, ◌+◌, ◌-◌, ◌*◌, ◌≤◌, ◌<◌, ◌^◌, Bool, ◌≡◌, List, ◌∷◌, length, get_or, take, drop}
use Rattle.meaning.specs.Rows.{count_below}
use Rattle.meaning.specs.Segment.{segment_count}
use Rattle.meaning.specs.Format.{width}
use Rattle.meaning.specs.Index.{format_of, row_count}
use Rattle.column_meaning.specs.Columns.{slice_count, existing, value_at}
use Rattle.meaning.specs.declared.Ranking.{Ranking}
use Rattle.laws.specs.Pivot.{above, level}

-- r begins with the list's first number and those from place `from` on
abbrev pub Top : (list : List ℕ) (from : ℕ) (r : List ℕ) → Type 0
Top list from r = take (length list - from + 1) r ≡ get_or list 0 0 ∷ drop from list

-- from the value p, of which `take` rows were to be taken, to the value q with one digit more, of which `take'` are: c rows have the
-- digit `first` there
pub record Stepped (p take c first q take' : ℕ) : Type 0 where
  pub fewer : c < take → (q ≡ 2 * p + (1 - first)) × (take' ≡ take - c)
  pub enough : take ≤ c → (q ≡ 2 * p + first) × (take' ≡ take)

module _ (index list : List ℕ) where
  -- the rows that exist and come before the value m, and those that have it
  abbrev pub rows_above : (op : Ranking) (m : ℕ) → ℕ → Bool
  rows_above op m = above op (existing index list) (value_at index list) m

  abbrev pub rows_level : (m : ℕ) → ℕ → Bool
  rows_level m = level (existing index list) (value_at index list) m

-- all rows that come before m, and `take` of those that have it, are k
pub record PivotOf (op : Ranking) (index list : List ℕ) (k m take : ℕ) : Type 0 where
  pub low : m < 2 ^ slice_count list
  pub counts : count_below (row_count index) (rows_above index list op m) + take ≡ k
  pub some : take ≤ count_below (row_count index) (rows_level index list m)

-- just `take` rows that have the value m come before row r, which is in a segment or right behind the last
pub record CutAt (index list : List ℕ) (m take r : ℕ) : Type 0 where
  pub within : r ≤ segment_count (width (format_of index)) (row_count index) * width (format_of index)
  pub before : count_below r (rows_level index list m) ≡ take

-- of the rows that have the value m, if there are `most`, the row where so many of them are cut; if there are fewer, how many
pub record Scanned (index list : List ℕ) (m most count row : ℕ) : Type 0 where
  pub found : most ≤ count_below (row_count index) (rows_level index list m) → CutAt index list m most row
  pub counted : count_below (row_count index) (rows_level index list m) < most
      → count ≡ count_below (row_count index) (rows_level index list m)
