-- `on_lists::histogram` meets its contract: the check, and then `lists::ask::histogram`. Assumes nothing.
use Rattle.meaning.specs.Answer.{check, ask_histogram, histogram}
use Rattle.answers.specs.Told.{outcome_of}
use Rattle.answers.proofs.Checks.{stopped, answers, checked-index}
use Rattle.on_lists.proofs.histogram.Goals as goal

pub histogram-requires : goal.histogram-requires
histogram-requires c = checked-index c.check.result c.args.index.now c.check.ensures c.in_ok-check.was

pub returns-in_err-check : goal.returns-in_err-check
unfolding histogram
returns-in_err-check c =
    let a = c.args in
    stopped c.check.result (check a.index.now) c.check.ensures (ask_histogram a.index.now a.list.now) c.from_residual.result _ c.in_err-check.was c.from_residual.ensures.1

pub returns : goal.returns
unfolding histogram
returns c =
    let a = c.args in
    answers c.check.result (check a.index.now) c.check.ensures (ask_histogram a.index.now a.list.now) (outcome_of c.histogram.result) c.in_ok-check.was c.histogram.ensures
