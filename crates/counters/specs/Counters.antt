-- Counters that lie across words, their planes: bit k of the counter at place j is bit j of plane k.
-- Assumes nothing.
use Rattle.std.specs.Prelude.{ℕ, ◌+◌, ◌*◌, List, [], ◌∷◌}
use Rattle.meaning.specs.Segment.{bit_at}

-- the counter at place j of any number of planes, the lowest bits first
unfoldable pub count_at : List ℕ → ℕ → ℕ
unfolding bit_at
count_at [] j = 0
count_at (p ∷ ps) j = bit_at p j + 2 * count_at ps j
