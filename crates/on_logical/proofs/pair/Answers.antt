-- `on_logical::pair` meets its contract: the check, and then `logical::pair`. Assumes nothing.
use lib.ListN.{length}
use Rattle.meaning.specs.Answer.{check, ask_logical, logical}
use Rattle.answers.proofs.Checks.{checked-index}
use Rattle.answers.proofs.Tells.{wrote-stopped, wrote_then}
use Rattle.logical.specs.Combined.{combined}
use Rattle.on_logical.proofs.pair.Goals as goal

pub pair-requires : goal.pair-requires
pair-requires c = checked-index c.check.result c.args.index.now c.check.ensures c.in_ok-check.was

pub returns-in_err-check : goal.returns-in_err-check
unfolding logical
returns-in_err-check c =
    let a = c.args in
    wrote-stopped _ (check a.index.now) (ask_logical a.index.now (combined a.op) a.j a.k (length a.out.now)) _ _ _ c.check.ensures c.in_err-check.was c.from_residual.ensures.1

pub returns : goal.returns
unfolding logical
returns c =
    let a = c.args in
    wrote_then c.check.result (check a.index.now) (ask_logical a.index.now (combined a.op) a.j a.k (length a.out.now)) c.pair.result a.out.now c.pair.new.out c.check.ensures c.in_ok-check.was c.pair.ensures
