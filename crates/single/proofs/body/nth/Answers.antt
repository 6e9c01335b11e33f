-- `single::body::nth` meets its contract: what `body_read::nth::nth` found, or a bad argument. Assumes nothing.
use mathlib.Core.Path.{ap, ◌∙◌}
use Rattle.answers.specs.Told.{outcome_of}
use Rattle.single.proofs.Asks.{found-or-refused}
use Rattle.single.proofs.body.nth.Goals as goal

pub returns : goal.returns
returns c = ap outcome_of c.ok_or.ensures.value ∙ found-or-refused c.nth.result c.bad_argument.result c.bad_argument.ensures ∙ c.nth.ensures
