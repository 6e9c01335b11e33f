-- The words of a block as the segments that they are written as: a last segment with pad bits goes by its rows alone.
-- Assumes nothing.
use Rattle.std.specs.Prelude.{ℕ, ◌+◌, ◌*◌, ◌%◌, ◌^◌, ◌≤◌, ◌<◌, Bool, true, false, ◌≡◌, List, length, get_or}
use Rattle.meaning.specs.Limits.{block_segments}
use Rattle.meaning.specs.Segment.{kind, all_set, rows_in}
use Rattle.meaning.specs.Format.{width}
use Rattle.meaning.specs.declared.Format.{Format}

-- word w of each of the first `count` rows is now written as the segment that its rows make, of which the mask has
-- the bits; all other words stay
pub record WordsSpelled (F : Format) (z : List ℕ) (count w mask : ℕ) (z' : List ℕ) : Type 0 where
  pub long : length z' ≡ length z
  pub words : (b real : ℕ) → b < count → 1 ≤ real → real ≤ width F → mask ≡ all_set real
      → kind (width F) (get_or z' (b * block_segments + w) 0) ≡ kind real (get_or z (b * block_segments + w) 0 % 2 ^ real)
  pub others : (i : ℕ) → ((b : ℕ) → b < count → i ≡ b * block_segments + w → ⊥) → get_or z' i 0 ≡ get_or z i 0

-- the first `count` rows have the n segments from o on of R rows: a block's words are now written as the segments
-- that their rows make, and a run's stay, as do all other words
pub record Spelled (F : Format) (R o n : ℕ) (even : Bool) (z : List ℕ) (count : ℕ) (z' : List ℕ) : Type 0 where
  pub long : length z' ≡ length z
  pub run : even ≡ true → z' ≡ z
  pub block : even ≡ false → (b i : ℕ) → b < count → i < n → get_or z (b * block_segments + i) 0 < 2 ^ width F
      → kind (width F) (get_or z' (b * block_segments + i) 0)
      ≡ kind (rows_in (width F) R (o + i)) (get_or z (b * block_segments + i) 0 % 2 ^ rows_in (width F) R (o + i))
  pub others : (i : ℕ) → ((b j : ℕ) → b < count → j < n → i ≡ b * block_segments + j → ⊥) → get_or z' i 0 ≡ get_or z i 0
