-- `bitmaps::check_number` meets its contract: `number-bad` or `number-good`, by the number of bitmaps that was read. Assumes nothing.
use mathlib.Core.Path.{ap, ◌∙◌}
use Rattle.answers.specs.Told.{refused_by, outcome_of}
use Rattle.bitmaps.proofs.Numbers.{number-bad, number-good}
use Rattle.bitmaps.proofs.check_number.Goals as goal

pub returns-then-bitmaps-k : goal.returns-then-bitmaps-k
unfolding outcome_of
returns-then-bitmaps-k c = ap refused_by c.bad_argument.ensures ∙ number-bad _ _ _ c.bitmaps.ensures c.if-bitmaps-k.true

pub returns : goal.returns
unfolding outcome_of
returns c = number-good _ _ _ c.bitmaps.ensures c.if-bitmaps-k.false
