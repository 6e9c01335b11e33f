-- A block's rows taken out of it and put into it, and the row of what exists in both of two blocks.
-- Assumes nothing.
use Rattle.std.specs.Prelude.{ℕ, Bool, ◌+◌, ◌-◌, ◌≤◌, ◌<◌, ◌^◌, cond, ◌&&◌, ◌≡◌, List, length, get_or}
use Rattle.std.specs.Int.Bits.{bit_and}
use Rattle.meaning.specs.Limits.{word_bits, block_segments, block_words}
use Rattle.meaning.specs.Segment.{bit_at, is_set}
use Rattle.words.specs.Sums.{PartOf}

-- r is the row of x that begins at `at`
abbrev pub RowOf : (x : List ℕ) (at : ℕ) (r : List ℕ) → Type 0
RowOf = PartOf block_segments

-- each bit of r's words is the other than a's, where `flip` says so, and else a's
pub record Flipped (flip : Bool) (a r : List ℕ) : Type 0 where
  pub bits : (w j : ℕ) → w < block_segments → j < word_bits
      → bit_at (get_or r w 0) j ≡ cond flip (1 - bit_at (get_or a w 0) j) (bit_at (get_or a w 0) j)

-- r has the bits of b where m has one, and those of a elsewhere
pub record ChosenBy (a b m r : List ℕ) : Type 0 where
  pub bits : (w j : ℕ) → w < block_segments
      → is_set (get_or r w 0) j ≡ cond (is_set (get_or m w 0) j) (is_set (get_or b w 0) j) (is_set (get_or a w 0) j)

-- the row of z that begins at `at` became the common bits of a and b, and all other words stay
pub record PutBoth (a b z : List ℕ) (at : ℕ) (z' : List ℕ) : Type 0 where
  pub long : length z' ≡ length z
  pub low : (w : ℕ) → w < block_segments → get_or z' (at + w) 0 < 2 ^ 32
  pub words : (w : ℕ) → w < block_segments → get_or z' (at + w) 0 ≡ bit_and (get_or a w 0) (get_or b w 0)
  pub before : (i : ℕ) → i < at → get_or z' i 0 ≡ get_or z i 0
  pub behind : (i : ℕ) → at + block_segments ≤ i → get_or z' i 0 ≡ get_or z i 0

-- the first row of z, which e has too: what exists in both x and y
pub record Existing (x y z e : List ℕ) : Type 0 where
  pub long : length z ≡ block_words
  pub same : (w : ℕ) → w < block_segments → get_or z w 0 ≡ get_or e w 0
  pub low : (w : ℕ) → w < block_segments → get_or z w 0 < 2 ^ 32
  pub exists : (w j : ℕ) → w < block_segments
      → is_set (get_or z w 0) j ≡ is_set (get_or x w 0) j && is_set (get_or y w 0) j
