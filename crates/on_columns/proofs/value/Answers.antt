-- `on_columns::value` meets its contract: the check, and then `columns::ask::value`.
-- Assumes nothing.
use Rattle.meaning.specs.Answer.{check}
use Rattle.column_meaning.specs.Columns.{ask_value, value}
use Rattle.answers.specs.Told.{outcome_of}
use Rattle.answers.proofs.Checks.{stopped, answers, checked-index}
use Rattle.on_columns.proofs.value.Goals as goal

pub value-requires : goal.value-requires
value-requires c = checked-index c.check.result c.args.index.now c.check.ensures c.in_ok-check.was

pub returns-in_err-check : goal.returns-in_err-check
unfolding outcome_of value
returns-in_err-check c =
    let a = c.args in
    stopped c.check.result (check a.index.now) c.check.ensures (ask_value a.index.now a.column.now a.row) c.from_residual.result _ c.in_err-check.was c.from_residual.ensures.1

pub returns : goal.returns
unfolding value
returns c =
    let a = c.args in
    answers c.check.result (check a.index.now) c.check.ensures (ask_value a.index.now a.column.now a.row) _ c.in_ok-check.was c.value.ensures
