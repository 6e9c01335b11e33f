-- What plain words hold of a set of rows while they are written, and what each step adds: of every such set. Request 4.
-- Assumes nothing.
use Rattle.std.specs.Prelude.{ℕ, ◌+◌, ◌*◌, ◌^◌, ◌≤◌, ◌<◌, Bool, ◌≡◌, List, length, get_or}
use Rattle.meaning.specs.Segment.{word_of}
use Rattle.repack.specs.declared.fill.Filler.{Filler}
use Rattle.repack.specs.Packing.{Holds}

-- how many rows were put: those of the whole words, and those of the word begun
abbrev pub rows_done : Filler → ℕ
rows_done s = s.done * 32 + s.packer.have

-- the word begun is not whole, and has no bit but its rows
pub record Ready (s : Filler) : Type 0 where
  pub few : s.packer.have < 32
  pub low : s.packer.word < 2 ^ s.packer.have

-- the whole words are those of the rows q, the words behind are as they were, and the packer has the rows of q that
-- come next
pub record Laid (q : ℕ → Bool) (was out : List ℕ) (s : Filler) : Type 0 where
  pub few : s.packer.have < 32
  pub long : length out ≡ length was
  pub whole : (i : ℕ) → i < s.done → get_or out i 0 ≡ word_of 32 (λ j. q (i * 32 + j))
  pub behind : (i : ℕ) → s.done ≤ i → get_or out i 0 ≡ get_or was i 0
  pub begun : Holds q (s.done * 32) s.packer

-- n rows more were put, f 0, f 1, .. : where the rows before were those of q, and q goes on with these, all are those
-- of q
pub record Put (f : ℕ → Bool) (n : ℕ) (s : Filler) (out out' : List ℕ) (r : Filler) : Type 0 where
  pub rows : rows_done r ≡ rows_done s + n
  pub ready : Ready r
  pub long : length out' ≡ length out
  pub laid : (q : ℕ → Bool) (was : List ℕ) → Laid q was out s → ((j : ℕ) → j < n → q (rows_done s + j) ≡ f j)
      → Laid q was out' r

-- the words from `from` to `to` are x, and the others are as they were
pub record Stored (x from : ℕ) (was out : List ℕ) (to : ℕ) : Type 0 where
  pub long : length out ≡ length was
  pub before : (i : ℕ) → i < from → get_or out i 0 ≡ get_or was i 0
  pub inside : (i : ℕ) → from ≤ i → i < to → get_or out i 0 ≡ x
  pub behind : (i : ℕ) → to ≤ i → get_or out i 0 ≡ get_or was i 0
