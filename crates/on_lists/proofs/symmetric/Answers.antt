-- `on_lists::symmetric` meets its contract: the check, and then `lists::ask::symmetric`. Assumes nothing.
use lib.ListN.{length}
use Rattle.answers.proofs.Checks.{checked-index}
use Rattle.meaning.specs.Answer.{check, ask_symmetric, symmetric}
use Rattle.answers.proofs.Tells.{reported-stopped}
use Rattle.on_lists.proofs.Guards.{reported-then}
use Rattle.on_lists.proofs.symmetric.Goals as goal

pub symmetric-requires : goal.symmetric-requires
symmetric-requires c = checked-index c.check.result c.args.index.now c.check.ensures c.in_ok-check.was

pub returns-in_err-check : goal.returns-in_err-check
unfolding symmetric
returns-in_err-check c =
    let a = c.args in
    reported-stopped a.index.now a.list.now _ (check a.index.now) (ask_symmetric a.index.now a.list.now a.table.now (length a.out.now)) _ _ _ c.check.ensures c.in_err-check.was c.from_residual.ensures.1

pub returns : goal.returns
unfolding symmetric
returns c =
    let a = c.args in
    reported-then a.index.now a.list.now c.check.result (check a.index.now) (ask_symmetric a.index.now a.list.now a.table.now (length a.out.now)) c.symmetric.result a.out.now c.symmetric.new.out c.check.ensures c.in_ok-check.was c.symmetric.ensures
