-- Set bits of words that are counted many at once.
-- Assumes nothing.
use Rattle.std.specs.Prelude.{ℕ, ◌+◌, ◌*◌, List, get_or}
use Rattle.meaning.specs.Rows.{sum_below, count_below}
use Rattle.meaning.specs.Segment.{is_set}

-- how many words a vector has, two of them, and a block
abbrev pub lanes : ℕ
lanes = 4

abbrev pub pair_size : ℕ
pair_size = 2 * lanes

abbrev pub block_size : ℕ
block_size = 8 * pair_size

-- how many bits of the n words of x from `at` on are set
unfoldable pub set_in : (x : List ℕ) (at n : ℕ) → ℕ
unfolding sum_below count_below is_set
set_in x at n = sum_below n (λ i. count_below 32 (is_set (get_or x (at + i) 0)))

-- how many bits of a vector are set
unfoldable pub set_bits : (a : List ℕ) → ℕ
unfolding sum_below count_below is_set
set_bits a = sum_below lanes (λ w. count_below 32 (is_set (get_or a w 0)))
