-- `on_bodies::body_nth` meets its contract: the check's refusal; or, by `countable`, a sound body that `single::body::nth` is asked of. Assumes nothing.
use Rattle.meaning.specs.Format.{rows_of}
use Rattle.meaning.specs.Answer.{check_body, ask_nth, body_nth}
use Rattle.answers.specs.Told.{outcome_of}
use Rattle.answers.proofs.Checks.{stopped, answers}
use Rattle.on_bodies.proofs.Alone.{countable}
use Rattle.on_bodies.proofs.body_nth.Goals as goal

pub nth-requires : goal.nth-requires
nth-requires c =
    let s = countable _ _ _ _ c.check_body.ensures c.in_ok-check_body.was in record { rows_le_most_rows = s.0; sound_facts = s.1 }

pub returns-in_err-check_body : goal.returns-in_err-check_body
unfolding outcome_of body_nth
returns-in_err-check_body c =
    let a = c.args in
    stopped c.check_body.result (check_body a.format a.rows a.body.now) c.check_body.ensures (ask_nth a.rows (rows_of a.format a.body.now) a.n) c.from_residual.result _ c.in_err-check_body.was c.from_residual.ensures.1

pub returns : goal.returns
unfolding body_nth
returns c =
    let a = c.args in
    answers c.check_body.result (check_body a.format a.rows a.body.now) c.check_body.ensures (ask_nth a.rows (rows_of a.format a.body.now) a.n) (outcome_of c.nth.result) c.in_ok-check_body.was
    c.nth.ensures
