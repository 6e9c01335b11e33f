-- `popcount::planes::add_carries` meets its contract: the law of the adder. Assumes nothing.
use Rattle.popcount.specs.Weights.{summed}
use Rattle.popcount.proofs.Counted.{set-added}
use Rattle.popcount.proofs.planes.add_carries.Goals as goal

pub returns : goal.returns
unfolding summed
returns c = set-added _ _ _ _ _ c.add.ensures
