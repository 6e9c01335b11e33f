-- A whole index written anew: the index that it becomes, and how much of it a buffer has.
-- Assumes nothing.
use Rattle.std.specs.Prelude.{ℕ, ◌+◌, ◌≤◌, ◌<◌, ◌≡◌, List, length, get_or, drop}
use Rattle.meaning.specs.Index.{row_count, bitmap_count, entry_place, body_place}
use Rattle.meaning.specs.NewIndex.{index_of}
use Rattle.meaning.specs.Rewriting.{sets_from}
use Rattle.meaning.specs.declared.Format.{Format}

-- the index that `index` becomes with bodies of the format G
abbrev pub anew : (index : List ℕ) → Format → List ℕ
anew index G = index_of G (row_count index) (sets_from index 0 (bitmap_count index))

-- of the index t the buffer has the head, the first k entries and the first k bodies; behind them it is as `old` was
pub record Begun (t old out : List ℕ) (k : ℕ) : Type 0 where
  pub long : length out ≡ length old
  pub front : (i : ℕ) → i < entry_place t k → get_or out i 0 ≡ get_or t i 0
  pub bodies : (i : ℕ) → entry_place t (bitmap_count t) ≤ i → i < body_place t k → get_or out i 0 ≡ get_or t i 0
  pub behind : drop (body_place t k) out ≡ drop (body_place t k) old

-- to a buffer that has the first k bodies of t, and their entries, body k was added, and its entry
abbrev pub BodyAdded : (t out out' : List ℕ) (k : ℕ) → Type 0
BodyAdded t out out' k = (old : List ℕ) → Begun t old out k → Begun t old out' (k + 1)
