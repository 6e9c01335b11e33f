-- `on_bodies::expand` meets its contract: the check's refusal; or, by `countable`, a sound body, and then `plain::expand::plain`. Assumes nothing.
use Rattle.meaning.specs.Format.{rows_of}
use lib.ListN.{length}
use Rattle.meaning.specs.Answer.{check_body, ask_plain, expand}
use Rattle.answers.proofs.Tells.{wrote-stopped, wrote_then}
use Rattle.on_bodies.proofs.Alone.{countable}
use Rattle.on_bodies.proofs.expand.Goals as goal

pub plain-requires : goal.plain-requires
plain-requires c =
    let s = countable _ _ _ _ c.check_body.ensures c.in_ok-check_body.was in record { rows_le_most_rows = s.0; sound_facts = s.1 }

pub returns-in_err-check_body : goal.returns-in_err-check_body
unfolding expand
returns-in_err-check_body c =
    let a = c.args in
    wrote-stopped _ (check_body a.format a.rows a.body.now) (ask_plain a.rows (rows_of a.format a.body.now) (length a.out.now)) _ _ _ c.check_body.ensures c.in_err-check_body.was c.from_residual.ensures.1

pub returns : goal.returns
unfolding expand
returns c =
    let a = c.args in
    wrote_then c.check_body.result (check_body a.format a.rows a.body.now) (ask_plain a.rows (rows_of a.format a.body.now) (length a.out.now)) c.plain.result a.out.now c.plain.new.out c.check_body.ensures c.in_ok-check_body.was c.plain.ensures
