-- Numbers that lie across rows of words: row 0 has the rows that exist, row i + 1 digit i of their values.
-- Assumes nothing.
use Rattle.std.specs.Prelude.{ℕ, ◌+◌, ◌*◌, ◌^◌, ◌≤◌, ◌<◌, ◌&&◌, ◌≡◌, List, leb, length, get_or}
use Rattle.meaning.specs.Limits.{word_bits, block_segments, block_words}
use Rattle.meaning.specs.Rows.{sum_below}
use Rattle.meaning.specs.Segment.{bit_at, is_set}

-- the number that n rows behind the first have at bit j of their word w
unfoldable pub number_at : (x : List ℕ) (n w j : ℕ) → ℕ
unfolding sum_below bit_at
number_at x n w j = sum_below n (λ i. bit_at (get_or x ((i + 1) * block_segments + w) 0) j * 2 ^ i)

-- z's first n + 1 rows: the rows that exist in both, and of them the n digits of what `op` makes of the two numbers
pub record Paired (op : (n x y : ℕ) → ℕ) (x y : List ℕ) (n : ℕ) (z : List ℕ) : Type 0 where
  pub long : length z ≡ block_words
  pub low : (i w : ℕ) → i ≤ n → w < block_segments → get_or z (i * block_segments + w) 0 < 2 ^ 32
  pub exists : (w j : ℕ) → w < block_segments
      → is_set (get_or z w 0) j ≡ is_set (get_or x w 0) j && is_set (get_or y w 0) j
  pub digits : (i w j : ℕ) → i < n → w < block_segments
      → is_set (get_or z ((i + 1) * block_segments + w) 0) j
      ≡ is_set (get_or z w 0) j && is_set (op n (number_at x n w j) (number_at y n w j)) i

-- r has the bits at which x's number of n digits is no less than y's
pub record NotLess (x y : List ℕ) (n : ℕ) (r : List ℕ) : Type 0 where
  pub bits : (w j : ℕ) → w < block_segments → j < word_bits
      → is_set (get_or r w 0) j ≡ leb (number_at y n w j) (number_at x n w j)
