-- `wah::check::word_step` meets its contract: each return is a law of `Steps`, of a fill or of a literal. Assumes nothing.
use native.Mathlib.Omega.{arith}
use Rattle.wah.proofs.Steps.{fill_none, fill-over, fill-passed, last-rows}
use Rattle.wah.proofs.Steps.{literal-over, literal-inside, literal-pad, literal-last}
use Rattle.wah.proofs.check.word_step.Goals as goal

pub returns-then-count-eq0 : goal.returns-then-count-eq0
returns-then-count-eq0 c = search fill_none

pub returns-then-left-count : goal.returns-then-left-count
returns-then-left-count c = search fill-over

pub returns-then-is_fill : goal.returns-then-is_fill
returns-then-is_fill c = search fill-passed

pub returns-then-left-eq0 : goal.returns-then-left-eq0
returns-then-left-eq0 c = search literal-over

pub returns-then-left-ne1 : goal.returns-then-left-ne1
returns-then-left-ne1 c = search literal-inside

pub sets_pad-requires : goal.sets_pad-requires
sets_pad-requires c = (omega arith, omega arith, search last-rows)

pub returns-then-sets_pad : goal.returns-then-sets_pad
returns-then-sets_pad c = search literal-pad

pub returns : goal.returns
returns c = search literal-last
