-- `on_logical::not` meets its contract: the check, and then `logical::not`. Assumes nothing.
use lib.ListN.{length}
use Rattle.meaning.specs.Answer.{check, ask_not, not_of}
use Rattle.answers.proofs.Checks.{checked-index}
use Rattle.answers.proofs.Tells.{wrote-stopped, wrote_then}
use Rattle.on_logical.proofs.not.Goals as goal

pub not-requires : goal.not-requires
not-requires c = checked-index c.check.result c.args.index.now c.check.ensures c.in_ok-check.was

pub returns-in_err-check : goal.returns-in_err-check
unfolding not_of
returns-in_err-check c =
    let a = c.args in
    wrote-stopped _ (check a.index.now) (ask_not a.index.now a.k (length a.out.now)) _ _ _ c.check.ensures c.in_err-check.was c.from_residual.ensures.1

pub returns : goal.returns
unfolding not_of
returns c =
    let a = c.args in
    wrote_then c.check.result (check a.index.now) (ask_not a.index.now a.k (length a.out.now)) c.not.result a.out.now c.not.new.out c.check.ensures c.in_ok-check.was c.not.ensures
