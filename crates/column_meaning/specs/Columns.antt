-- The outcome of every call on columns of an index. A list of bitmap numbers names a column: existence first, then its slices, the
-- lowest first; a number may be named twice. Requests 1, 7 and 8. The order of refusals is the index's own, 8, 11, 9.
-- Assumes nothing.
use Rattle.std.specs.Prelude.{ℕ, ◌-◌, max, Bool, ◌||◌, length, ℤ}
use Rattle.std.proofs.Math.Bool.{false, not}
use mathlib.Core.List.{List, [], ◌∷◌}
use Rattle.std.proofs.Math.Dec.{leb, ltb}
use Rattle.meaning.specs.Limits.{least_column, most_column, most_value_column}
use Rattle.meaning.specs.Rows.{count_below, nth_below}
use Rattle.meaning.specs.Refusal.{Outcome, answer, Verdict, sound, refuse_if, ◌then◌}
use Rattle.meaning.specs.Index.{format_of, row_count, rows_at}
use Rattle.meaning.specs.Question.{intersection, difference}
use Rattle.meaning.specs.Answer.{write, check, any_bad, named}
use Rattle.meaning.specs.NewIndex.{write_index}
use Rattle.column_meaning.specs.Column.{value_of, signed_of, column_of, pair_value, pair_slices}
use Rattle.column_meaning.specs.Ranking.{first_rows}
use Rattle.meaning.specs.declared.Pairing.{Pairing}
use Rattle.meaning.specs.declared.Pairing.TheVariants.{Sum, Difference, Smaller, DifferenceOrZero}
use Rattle.meaning.specs.declared.Ranking.{Ranking}
use Rattle.meaning.specs.declared.Ranking.TheVariants.{Largest, Smallest}

-- how many slices a list names
unfoldable pub slice_count : List ℕ → ℕ
slice_count list = length list - 1

-- how many the wider of two columns has
unfoldable pub wider : (first second : List ℕ) → ℕ
unfolding slice_count
wider first second = max (slice_count first) (slice_count second)

-- how many slices an operation's answer on two columns has
unfoldable pub pair_width : (op : Pairing) (first second : List ℕ) → ℕ
unfolding pair_slices wider
pair_width op first second = pair_slices op (wider first second)

module _ (index : List ℕ) where
  -- ---- the column that a list names

  -- the rows that exist
  unfoldable pub existing : List ℕ → ℕ → Bool
  unfolding rows_at
  existing [] r = false
  existing (k ∷ ks) r = rows_at index k r

  -- its slices, the lowest first
  unfoldable pub slices_of : List ℕ → List (ℕ → Bool)
  unfolding named
  slices_of [] = []
  slices_of (k ∷ ks) = named index ks

  -- the value of row r
  unfoldable pub value_at : List ℕ → ℕ → ℕ
  unfolding value_of slices_of
  value_at list r = value_of (slices_of list) r

  -- the same in a signed column
  unfoldable pub signed_at : List ℕ → ℕ → ℤ
  unfolding signed_of slices_of
  signed_at list r = signed_of (slices_of list) r

  -- ---- refusals

  -- 8: a list of fewer than 2 or more than `most` numbers, or that names a bitmap that is not there
  unfoldable pub bad_column : (most : ℕ) → List ℕ → Bool
  unfolding any_bad
  bad_column most list = ltb (length list) least_column || ltb most (length list) || any_bad index list

  -- 8: there is no row r, or it does not exist
  unfoldable pub bad_row : List ℕ → ℕ → Bool
  unfolding row_count existing
  bad_row list r = leb (row_count index) r || not (existing list r)

  -- the rows that bitmap k, as a slice, has and that do not exist
  unfoldable pub stray_rows : (exists : ℕ → Bool) (k : ℕ) → ℕ → Bool
  unfolding difference rows_at
  stray_rows exists k = difference (rows_at index k) exists

  -- 11: the first such slice's bitmap number, and the lowest such row of it
  unfoldable pub strays_in : (exists : ℕ → Bool) → List ℕ → Verdict
  unfolding refuse_if row_count stray_rows count_below nth_below
  strays_in exists [] = sound
  strays_in exists (k ∷ ks) =
      refuse_if (ltb 0 (count_below (row_count index) (stray_rows exists k)))
      11 k (nth_below (row_count index) (stray_rows exists k) 0)
      (strays_in exists ks)

  -- of the column that a list names
  unfoldable pub strays : List ℕ → Verdict
  unfolding strays_in rows_at
  strays [] = sound
  strays (k ∷ ks) = strays_in (rows_at index k) ks

  -- ---- a value

  -- what is left once the index is sound, where the row's value is v: every 8 comes before any 11
  unfoldable pub ask_at : {A : Type 0} (list : List ℕ) (r : ℕ) (v : A) → Outcome A
  unfolding ◌then◌ refuse_if bad_column bad_row strays
  ask_at list r v = refuse_if (bad_column most_value_column list || bad_row list r) 8 0 0 (strays list then answer v)

  -- `value`
  unfoldable pub ask_value : (list : List ℕ) (r : ℕ) → Outcome ℕ
  unfolding ask_at value_at
  ask_value list r = ask_at list r (value_at list r)

  unfoldable pub value : (list : List ℕ) (r : ℕ) → Outcome ℕ
  unfolding check ◌then◌ ask_value
  value list r = check index then ask_value list r

  -- `signed_value`
  unfoldable pub ask_signed_value : (list : List ℕ) (r : ℕ) → Outcome ℤ
  unfolding ask_at signed_at
  ask_signed_value list r = ask_at list r (signed_at list r)

  unfoldable pub signed_value : (list : List ℕ) (r : ℕ) → Outcome ℤ
  unfolding check ◌then◌ ask_signed_value
  signed_value list r = check index then ask_signed_value list r

  -- ---- two columns, as a new index: a row exists in it if it does in both

  -- the bitmaps of an answer of n slices
  unfoldable pub pair_column : (op : Pairing) (n : ℕ) (first second : List ℕ) → List (ℕ → Bool)
  unfolding column_of intersection existing value_at pair_value
  pair_column op n first second =
      column_of (intersection (existing first) (existing second))
      (λ r. pair_value op n (value_at first r) (value_at second r)) n

  -- as a new index, or 9
  unfoldable pub write_pair : (op : Pairing) (first second : List ℕ) (room : ℕ) → Outcome (List ℕ)
  unfolding write_index row_count pair_column pair_width
  write_pair op first second room =
      write_index (format_of index) (row_count index) (pair_column op (pair_width op first second) first second) room

  -- what is left once the index is sound
  unfoldable pub ask_pair : (op : Pairing) (first second : List ℕ) (room : ℕ) → Outcome (List ℕ)
  unfolding ◌then◌ refuse_if bad_column strays write_pair
  ask_pair op first second room =
      refuse_if (bad_column most_column first || bad_column most_column second) 8 0 0
      (strays first then strays second then write_pair op first second room)

  unfoldable pub pair : (op : Pairing) (first second : List ℕ) (room : ℕ) → Outcome (List ℕ)
  unfolding check ◌then◌ ask_pair
  pair op first second room = check index then ask_pair op first second room

  -- `sum`, `signed_difference`, `smaller` and `difference_or_zero`
  abbrev pub sum : (first second : List ℕ) (room : ℕ) → Outcome (List ℕ)
  sum = pair Sum

  abbrev pub signed_difference : (first second : List ℕ) (room : ℕ) → Outcome (List ℕ)
  signed_difference = pair Difference

  abbrev pub smaller : (first second : List ℕ) (room : ℕ) → Outcome (List ℕ)
  smaller = pair Smaller

  abbrev pub difference_or_zero : (first second : List ℕ) (room : ℕ) → Outcome (List ℕ)
  difference_or_zero = pair DifferenceOrZero

  -- ---- the k largest or smallest of a column, as a body of the index's format (request 8)

  -- the rows of the answer
  unfoldable pub ranked_rows : (op : Ranking) (list : List ℕ) (k : ℕ) → ℕ → Bool
  unfolding first_rows row_count existing value_at
  ranked_rows op list k = first_rows op (row_count index) (existing list) (value_at list) k

  -- 8: the list names no column, or fewer than k rows exist
  unfoldable pub bad_rank : (list : List ℕ) (k : ℕ) → Bool
  unfolding bad_column count_below row_count existing
  bad_rank list k = bad_column most_column list || ltb (count_below (row_count index) (existing list)) k

  -- what is left once the index is sound
  unfoldable pub ask_ranked : (op : Ranking) (list : List ℕ) (k room : ℕ) → Outcome (List ℕ)
  unfolding ◌then◌ refuse_if bad_rank strays write row_count ranked_rows
  ask_ranked op list k room =
      refuse_if (bad_rank list k) 8 0 0 (strays list then write (format_of index) (row_count index) (ranked_rows op list k) room)

  unfoldable pub ranked : (op : Ranking) (list : List ℕ) (k room : ℕ) → Outcome (List ℕ)
  unfolding check ◌then◌ ask_ranked
  ranked op list k room = check index then ask_ranked op list k room

  -- `largest` and `smallest`
  abbrev pub largest : (list : List ℕ) (k room : ℕ) → Outcome (List ℕ)
  largest = ranked Largest

  abbrev pub smallest : (list : List ℕ) (k room : ℕ) → Outcome (List ℕ)
  smallest = ranked Smallest
