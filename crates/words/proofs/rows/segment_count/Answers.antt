-- `words::rows::segment_count` meets its contract: it is the definition of `segment_count`. Assumes nothing.
use mathlib.Core.Path.{refl}
use Rattle.meaning.specs.Segment.{segment_count}
use Rattle.words.proofs.rows.segment_count.Goals as goal

pub returns : goal.returns
unfolding segment_count
returns g c = refl
