-- `threshold::start::named` meets its contract. Assumes nothing.
use Rattle.std.proofs.Common.{arith}
use Rattle.meaning.specs.Index.{bitmap_count}
use Rattle.threshold.proofs.start.named.Goals as goal

pub returns : goal.returns
unfolding bitmap_count
returns c = grind arith
