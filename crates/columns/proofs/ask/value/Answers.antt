-- `columns::ask::value` meets its contract: what `check_row` refuses, and then the value.
-- Assumes nothing.
use mathlib.Core.Path.{ap, ◌∙◌}
use Rattle.meaning.specs.Refusal.{answer, Verdict}
use Rattle.column_meaning.specs.Columns.{value_at, ask_value}
use Rattle.answers.specs.Told.{outcome_of}
use Rattle.answers.proofs.Checks.{sound-is, stopped, answers}
use Rattle.columns.proofs.Asking.{row_verdict, asked-then, row-passed, good-column, good-row}
use Rattle.columns.proofs.ask.value.Goals as goal

pub value-requires : goal.value-requires
value-requires c =
    let a = c.args in
    let v : Verdict = row_verdict a.index.now a.list.now a.row in
    let p = row-passed _ _ _ (sound-is c.check_row.result v c.check_row.ensures c.in_ok-check_row.was) in
    let g = good-column _ _ _ p.0 in record {
      index_facts = c.requires;
      least_column_in_bounds = (g.0, g.1, g.2, good-row _ _ _ p.1);
    }

pub returns-in_err-check_row : goal.returns-in_err-check_row
unfolding outcome_of ask_value
returns-in_err-check_row c =
    let a = c.args in
    stopped c.check_row.result (row_verdict a.index.now a.list.now a.row) c.check_row.ensures (answer (value_at a.index.now a.list.now a.row)) c.from_residual.result _ c.in_err-check_row.was c.from_residual.ensures.1
    ∙ asked-then a.index.now a.list.now a.row _

pub returns : goal.returns
unfolding outcome_of ask_value
returns c =
    let a = c.args in
    answers c.check_row.result (row_verdict a.index.now a.list.now a.row) c.check_row.ensures
    _ _ c.in_ok-check_row.was (ap answer c.value.ensures)
    ∙ asked-then a.index.now a.list.now a.row _
