-- `wah::word::segment` meets its contract: the definition of `fill`, and arithmetic. Assumes nothing.
use borrow.Author.Rules.{rules}
use Rattle.meaning.specs.Segment.{fill}
use Rattle.wah.proofs.word.segment.Goals as goal

pub returns : goal.returns
unfolding fill
returns c = search rules
