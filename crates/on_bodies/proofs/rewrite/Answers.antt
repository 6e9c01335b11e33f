-- `on_bodies::rewrite` meets its contract: the check's refusal; or, by `countable`, a sound body, and then `single::body::rewrite`. Assumes nothing.
use Rattle.meaning.specs.Format.{rows_of}
use lib.ListN.{length}
use Rattle.meaning.specs.Answer.{check_body, write}
use Rattle.meaning.specs.Rewriting.{rewrite}
use Rattle.answers.proofs.Tells.{wrote-stopped, wrote_then}
use Rattle.on_bodies.proofs.Alone.{countable}
use Rattle.on_bodies.proofs.rewrite.Goals as goal

pub rewrite-requires : goal.rewrite-requires
rewrite-requires c =
    let s = countable _ _ _ _ c.check_body.ensures c.in_ok-check_body.was in record { rows_le_most_rows = s.0; sound_facts = s.1 }

pub returns-in_err-check_body : goal.returns-in_err-check_body
unfolding rewrite
returns-in_err-check_body c =
    let a = c.args in
    wrote-stopped _ (check_body a.from a.rows a.body.now) (write a.to a.rows (rows_of a.from a.body.now) (length a.out.now)) _ _ _ c.check_body.ensures c.in_err-check_body.was c.from_residual.ensures.1

pub returns : goal.returns
unfolding rewrite
returns c =
    let a = c.args in
    wrote_then c.check_body.result (check_body a.from a.rows a.body.now) (write a.to a.rows (rows_of a.from a.body.now) (length a.out.now)) c.rewrite.result a.out.now c.rewrite.new.out c.check_body.ensures c.in_ok-check_body.was c.rewrite.ensures
