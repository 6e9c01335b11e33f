-- `new_index::writers::start` meets its contract: each is the one that has no word.
-- Assumes nothing.
use mathlib.Core.Path.{refl}
use Rattle.new_index.proofs.Regions.{all-alike}
use Rattle.new_index.proofs.writers.start.Goals as goal

pub returns : goal.returns
returns c = (refl, all-alike c.start.result c.start.ensures)
