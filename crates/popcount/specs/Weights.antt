-- What sums and planes of digits hold.
-- Assumes nothing.
use Rattle.std.specs.Prelude.{ℕ, ◌+◌, ◌*◌}
use Rattle.popcount.specs.Counts.{lanes, set_bits}
use Rattle.words.specs.declared.vectors.Sums.{Sums}
use Rattle.popcount.specs.declared.planes.Planes.{Planes}

-- how many set bits were added up to these digits and carries
unfoldable pub summed : Sums lanes → ℕ
unfolding set_bits
summed s = set_bits s.digits + 2 * set_bits s.carries

-- how many set bits the planes stand for, each digit by its weight; carries that have left are not among them
unfoldable pub weight : Planes → ℕ
unfolding set_bits
weight p = set_bits p.ones + 2 * set_bits p.twos + 4 * set_bits p.fours + 8 * set_bits p.eights
