-- `popcount::planes::empty` meets its contract: no bit of zeros is set.
-- Assumes nothing.
use Rattle.popcount.specs.Weights.{weight}
use Rattle.popcount.proofs.Counted.{zeros-clear}
use native.Mathlib.Omega.{arith}
use Rattle.popcount.proofs.planes.empty.Goals as goal

pub returns : goal.returns
unfolding weight
returns c = omega (arith, zeros-clear)
