-- Many bits added at once: words taken as rows of digits.
-- Assumes nothing.
use Rattle.std.specs.Prelude.{ℕ, ◌+◌, ◌*◌, ◌<◌, ◌≡◌, List, length, get_or}
use Rattle.meaning.specs.Segment.{bit_at}

-- r has the n words of x from `at` on
pub record PartOf (n : ℕ) (x : List ℕ) (at : ℕ) (r : List ℕ) : Type 0 where
  pub long : length r ≡ n
  pub words : (w : ℕ) → w < n → get_or r w 0 ≡ get_or x (at + w) 0

-- at each bit of each of n words the digits of a, b and the carries c add up to the sum's digit and the carry to the next
pub record Added (n : ℕ) (a b c digits carries : List ℕ) : Type 0 where
  pub sums : (w j : ℕ) → w < n
      → bit_at (get_or digits w 0) j + 2 * bit_at (get_or carries w 0) j
      ≡ bit_at (get_or a w 0) j + bit_at (get_or b w 0) j + bit_at (get_or c w 0) j
