-- Where the bodies of a new index lie, and what stands before them.
-- Assumes nothing.
use Rattle.std.specs.Prelude.{ℕ, ◌+◌, ◌-◌, ◌*◌, ◌<◌, ◌≡◌, List, length, get_or, drop}
use Rattle.meaning.specs.Limits.{most_starts, head_words, entry_words}
use Rattle.meaning.specs.Format.{kind_of}
use Rattle.meaning.specs.declared.Format.{Format}
use Rattle.ewah_write.specs.declared.writer.Writer.{Writer}
use Rattle.new_index.specs.Writers.{writer_of}

-- r has the starts of `count` bodies, the first at `from`, and the end of the last
pub record StartsOf (ws : List Writer) (count from : ℕ) (r : List ℕ) : Type 0 where
  pub long : length r ≡ most_starts
  pub first : get_or r 0 0 ≡ from
  pub next : (i : ℕ) → i < count → get_or r (i + 1) 0 ≡ get_or r i 0 + (writer_of ws i).used

-- the head, and the first m of `count` entries, are written over the front of `old`, and what lies behind the contents stays
pub record Headed (F : Format) (old : List ℕ) (rows : ℕ) (starts : List ℕ) (count : ℕ) (out : List ℕ) (m : ℕ) : Type 0 where
  pub long : length out ≡ length old
  pub kind : get_or out 0 0 ≡ kind_of F
  pub rows_are : get_or out 1 0 ≡ rows
  pub count-is : get_or out 2 0 ≡ count
  pub entries : (i : ℕ) → i < m
      → (get_or out (head_words + entry_words * i) 0 ≡ get_or starts i 0)
      × (get_or out (head_words + entry_words * i + 1) 0 ≡ get_or starts (i + 1) 0 - get_or starts i 0)
  pub behind : drop (head_words + entry_words * count) out ≡ drop (head_words + entry_words * count) old
