-- `row_write::output::start` meets its contract. Assumes nothing.
use mathlib.Core.Path.{refl}
use Rattle.row_write.proofs.Packing.{packed_start}
use Rattle.row_write.proofs.output.start.Goals as goal

pub returns : goal.returns
returns c = (
  refl,
  λ R q old store few room. packed_start c.args.format R q old store _ few room refl refl c.start.ensures,
)
