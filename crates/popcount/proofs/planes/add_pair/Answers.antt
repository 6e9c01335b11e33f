-- `popcount::planes::add_pair` meets its contract, by `pair-added`. Assumes nothing.
use Rattle.popcount.specs.Weights.{summed}
use Rattle.popcount.proofs.Counted.{pair-added}
use Rattle.popcount.proofs.planes.add_pair.Goals as goal

pub returns : goal.returns
unfolding summed
returns c = pair-added c.part.ensures c.part-2.ensures c.add.ensures
