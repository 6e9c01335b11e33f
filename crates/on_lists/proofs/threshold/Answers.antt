-- `on_lists::threshold` meets its contract: the check, and then `lists::ask::threshold`; by `demand-met` demand 3 follows. Assumes nothing.
use lib.ListN.{length}
use Rattle.answers.proofs.Checks.{checked-index}
use Rattle.meaning.specs.Answer.{check, ask_threshold, threshold}
use Rattle.answers.proofs.Tells.{reported-stopped}
use Rattle.on_lists.proofs.Guards.{reported-then, demand-met}
use Rattle.on_lists.proofs.threshold.Goals as goal

pub threshold-requires : goal.threshold-requires
threshold-requires c = checked-index c.check.result c.args.index.now c.check.ensures c.in_ok-check.was

pub returns-in_err-check : goal.returns-in_err-check
unfolding threshold
returns-in_err-check c =
    let a = c.args in
    let e = reported-stopped a.index.now a.list.now _ (check a.index.now) (ask_threshold a.index.now a.list.now a.t (length a.out.now)) _ _ _ c.check.ensures c.in_err-check.was c.from_residual.ensures.1 in record {
      reported = e;
      threshold_demand = demand-met a.index.now a.list.now a.t _ a.out.now _ e;
    }

pub returns : goal.returns
unfolding threshold
returns c =
    let a = c.args in
    let e = reported-then a.index.now a.list.now c.check.result (check a.index.now) (ask_threshold a.index.now a.list.now a.t (length a.out.now)) c.threshold.result a.out.now c.threshold.new.out c.check.ensures c.in_ok-check.was c.threshold.ensures in record {
      reported = e;
      threshold_demand = demand-met a.index.now a.list.now a.t c.threshold.result a.out.now c.threshold.new.out e;
    }
