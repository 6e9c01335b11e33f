-- `on_bodies::body_row` meets its contract: the check's refusal; or, by `countable`, a sound body that `single::body::row` is asked of. Assumes nothing.
use Rattle.meaning.specs.Answer.{check_body, ask_row, body_row}
use Rattle.answers.specs.Told.{outcome_of}
use Rattle.answers.proofs.Checks.{stopped, answers}
use Rattle.on_bodies.proofs.Alone.{countable}
use Rattle.on_bodies.proofs.body_row.Goals as goal

pub row-requires : goal.row-requires
row-requires c =
    let s = countable _ _ _ _ c.check_body.ensures c.in_ok-check_body.was in record { rows_le_most_rows = s.0; sound_facts = s.1 }

pub returns-in_err-check_body : goal.returns-in_err-check_body
unfolding outcome_of body_row
returns-in_err-check_body c =
    let a = c.args in
    stopped c.check_body.result (check_body a.format a.rows a.body.now) c.check_body.ensures (ask_row a.format a.rows a.body.now a.row) c.from_residual.result _ c.in_err-check_body.was c.from_residual.ensures.1

pub returns : goal.returns
unfolding body_row
returns c =
    let a = c.args in
    answers c.check_body.result (check_body a.format a.rows a.body.now) c.check_body.ensures (ask_row a.format a.rows a.body.now a.row) (outcome_of c.row.result) c.in_ok-check_body.was c.row.ensures
