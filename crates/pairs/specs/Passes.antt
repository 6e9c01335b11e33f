-- What one pass over two columns gives: the bodies of what an operation makes of them, measured or written.
-- Assumes nothing.
use Rattle.std.specs.Prelude.{ℕ, ◌+◌, ◌≤◌, ◌<◌, Bool, true, ◌≡◌, List, ◌++◌, length, get_or, take, drop}
use Rattle.meaning.specs.Limits.{least_column, most_value_column, block_segments}
use Rattle.meaning.specs.Format.{canonical}
use Rattle.meaning.specs.Index.{format_of, row_count}
use Rattle.laws.specs.Laws.{IndexFacts}
use Rattle.column_meaning.specs.Columns.{pair_column}
use Rattle.meaning.specs.Rows.{none}
use Rattle.meaning.specs.declared.Pairing.{Pairing}
use Rattle.ewah.specs.declared.cursor.Cursor.{Cursor}
use Rattle.ewah.specs.Cursors.{left_of}
use Rattle.walk.specs.Queries.{cursor_of, Listed}
use Rattle.ewah_write.specs.declared.writer.Writer.{Writer}
use Rattle.new_index.specs.Writers.{writer_of, region}

-- two columns of a sound index, neither of more than n slices
pub record Columns (index first second : List ℕ) (n : ℕ) : Type 0 where
  pub facts : IndexFacts index
  pub first-listed : Listed index first
  pub second-listed : Listed index second
  pub first_some : least_column ≤ length first
  pub second-some : least_column ≤ length second
  pub first_fits : length first ≤ n + 1
  pub second_fits : length second ≤ n + 1
  pub few : n < most_value_column

-- no piece of the first query ends before `near`; nor does one of the second, if that is a block's segments or more
pub record Near (p q : List Cursor) (near : ℕ) : Type 0 where
  pub first : (k : ℕ) → k < length p → near ≤ left_of (cursor_of p k).piece
  pub second : block_segments ≤ near → (k : ℕ) → k < length q → near ≤ left_of (cursor_of q k).piece

-- body i of the answer
abbrev pub body_of : (op : Pairing) (index first second : List ℕ) (n i : ℕ) → List ℕ
body_of op index first second n i =
    canonical (format_of index) (row_count index) (get_or (pair_column index op n first second) i none)

-- the words of each body are counted, and stand in their part of the buffer where they are stored; what lies before the first part
-- and behind the last is as it was
pub record PassedTo (op : Pairing) (index first second : List ℕ) (n : ℕ) (starts old out : List ℕ) (ws : List Writer) (store : Bool) : Type 0 where
  pub long : length out ≡ length old
  pub writers-long : length ws ≡ most_value_column
  pub used : (i : ℕ) → i ≤ n → (writer_of ws i).used ≡ length (body_of op index first second n i)
  pub stored : store ≡ true → (i : ℕ) → i ≤ n
      → region starts out i ≡ body_of op index first second n i ++ drop (length (body_of op index first second n i)) (region starts old i)
  pub front : take (get_or starts 0 0) out ≡ take (get_or starts 0 0) old
  pub back : drop (get_or starts (n + 1) 0) out ≡ drop (get_or starts (n + 1) 0) old
