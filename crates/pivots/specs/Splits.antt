-- What the words of a block say of its rows: which are ahead of a pivot, which have its value, and how many rows have so many of them.
-- Assumes nothing.
use Rattle.std.specs.Prelude.{ℕ, ◌+◌, ◌*◌, ◌≤◌, ◌<◌, ◌^◌, Bool, not, ◌&&◌, ◌||◌, ◌≡◌, List, eqb, get_or}
use Rattle.meaning.specs.Limits.{word_bits, block_segments}
use Rattle.meaning.specs.Rows.{count_below}
use Rattle.meaning.specs.Segment.{bit_at, is_set}
use Rattle.meaning.specs.Format.{width}
use Rattle.column_meaning.specs.Ranking.{ahead}
use Rattle.meaning.specs.declared.Format.{Format}
use Rattle.meaning.specs.declared.Ranking.{Ranking}
use Rattle.adder.specs.Digits.{number_at}
use Rattle.block_read.specs.Taken.{word_at}

-- one digit more, x: of the rows s that agreed so far those agree whose digit is the pivot's, and the others join the rows a that are
-- ahead, unless the pivot's digit is the first
pub record Refined (digit first : ℕ) (a s x a' s' : List ℕ) : Type 0 where
  pub ahead-bits : (w j : ℕ) → w < block_segments → j < word_bits
      → is_set (get_or a' w 0) j
      ≡ is_set (get_or a w 0) j || (is_set (get_or s w 0) j && not (eqb (bit_at (get_or x w 0) j) digit) && not (eqb digit first))
  pub same_bits : (w j : ℕ) → w < block_segments → j < word_bits
      → is_set (get_or s' w 0) j ≡ is_set (get_or s w 0) j && eqb (bit_at (get_or x w 0) j) digit

-- of the block x of n slices, a has the rows that exist and whose number comes before the pivot, s those that have it
pub record SplitBy (op : Ranking) (x : List ℕ) (n pivot : ℕ) (a s : List ℕ) : Type 0 where
  pub ahead-bits : (w j : ℕ) → w < block_segments → j < word_bits
      → is_set (get_or a w 0) j ≡ is_set (get_or x w 0) j && ahead op (number_at x n w j) pivot
  pub same_bits : (w j : ℕ) → w < block_segments → j < word_bits
      → is_set (get_or s w 0) j ≡ is_set (get_or x w 0) j && eqb (number_at x n w j) pivot

-- r has the rows a, and those of s that `keep` has
pub record Taken (a s : List ℕ) (keep : ℕ) (r : List ℕ) : Type 0 where
  pub bits : (w j : ℕ) → w < block_segments
      → is_set (get_or r w 0) j ≡ is_set (get_or a w 0) j || (is_set (get_or s w 0) j && is_set keep j)

-- ws has the rows of p in the n segments from segment o on
pub record HasRows (F : Format) (o n : ℕ) (even : Bool) (ws : List ℕ) (p : ℕ → Bool) : Type 0 where
  pub low : (i : ℕ) → i < n → word_at even ws 0 i < 2 ^ width F
  pub bits : (i j : ℕ) → i < n → j < width F → is_set (word_at even ws 0 i) j ≡ p ((o + i) * width F + j)

-- of the n segments from o on the first r rows have just `take` rows of p, if all of them have as many
abbrev pub Reached : (F : Format) (o n : ℕ) (p : ℕ → Bool) (take r : ℕ) → Type 0
Reached F o n p take r =
    take ≤ count_below (n * width F) (λ k. p (o * width F + k))
    → (r ≤ n * width F) × (count_below r (λ k. p (o * width F + k)) ≡ take)
