-- What an operation makes of two columns, written.
-- Assumes nothing.
use Rattle.std.specs.Prelude.{ℕ, ◌≤◌, ◌<◌, ◌≡◌, List, ◌++◌, length, drop}
use Rattle.meaning.specs.NewIndex.{index_room}
use Rattle.meaning.specs.declared.Pairing.{Pairing}
use Rattle.laws.specs.ColumnLaws.{pair_index}

-- the words that it takes are told; it stands at the front of the buffer where there is room for an index of so many, and else
-- the buffer is as it was
pub record PairWritten (op : Pairing) (index first second : List ℕ) (n : ℕ) (old out : List ℕ) (need : ℕ) : Type 0 where
  pub need-is : need ≡ length (pair_index op index first second n)
  pub fits : need ≤ index_room (length old) → out ≡ pair_index op index first second n ++ drop need old
  pub lacks : index_room (length old) < need → out ≡ old
