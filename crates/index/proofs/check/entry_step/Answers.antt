-- `index::check::entry_step` meets its contract: a wrong start, a wrong length, or a right entry (`start-wrong`, `length-wrong`, `entry-right`). Assumes nothing.
use Rattle.index.proofs.EntrySteps.{start-wrong, length-wrong, entry-right}
use Rattle.index.proofs.check.entry_step.Goals as goal

pub returns-then-start-end : goal.returns-then-start-end
returns-then-start-end c = search start-wrong

pub returns-then-index-end : goal.returns-then-index-end
returns-then-index-end c = search length-wrong

pub returns : goal.returns
returns c = search entry-right
