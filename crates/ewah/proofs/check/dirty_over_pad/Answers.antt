-- `ewah::check::dirty_over_pad` meets its contract: no words, words that end before the last segment, and the word that is the last segment. Assumes nothing.
use borrow.Author.Rules.{rules}
use Rattle.laws.proofs.Walk.{over_none, over-inside, over_last}
use Rattle.ewah.proofs.Steps.{left-rows}
use Rattle.ewah.proofs.check.dirty_over_pad.Goals as goal

pub returns-then-d-eq0 : goal.returns-then-d-eq0
returns-then-d-eq0 c = search over_none

pub returns-then-d-left : goal.returns-then-d-left
returns-then-d-left c = search over-inside

pub sets_pad-requires : goal.sets_pad-requires
sets_pad-requires c = search (left-rows, rules)

pub returns : goal.returns
returns c = search over_last
