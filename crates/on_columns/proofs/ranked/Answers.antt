-- `on_columns::ranked` meets its contract: the check, and then `columns::rank::ranked`; by `demand-met` demand 3 follows.
-- Assumes nothing.
use lib.ListN.{length}
use Rattle.meaning.specs.Answer.{check}
use Rattle.column_meaning.specs.Columns.{ask_ranked, ranked}
use Rattle.answers.proofs.Checks.{checked-index}
use Rattle.answers.proofs.Tells.{wrote-stopped, wrote_then}
use Rattle.on_columns.proofs.Guards.{demand-met}
use Rattle.on_columns.proofs.ranked.Goals as goal

pub ranked-requires : goal.ranked-requires
ranked-requires c = checked-index c.check.result c.args.index.now c.check.ensures c.in_ok-check.was

pub returns-in_err-check : goal.returns-in_err-check
unfolding ranked
returns-in_err-check c =
    let a = c.args in
    let e = wrote-stopped _ (check a.index.now) (ask_ranked a.index.now a.op a.column.now a.k (length a.out.now)) _ _ _ c.check.ensures c.in_err-check.was c.from_residual.ensures.1 in record {
      wrote = e;
      rank_demand = demand-met a.op a.index.now a.column.now a.k _ a.out.now _ e;
    }

pub returns : goal.returns
unfolding ranked
returns c =
    let a = c.args in
    let e = wrote_then c.check.result (check a.index.now) (ask_ranked a.index.now a.op a.column.now a.k (length a.out.now)) c.ranked.result a.out.now c.ranked.new.out c.check.ensures c.in_ok-check.was c.ranked.ensures in record {
      wrote = e;
      rank_demand = demand-met a.op a.index.now a.column.now a.k c.ranked.result a.out.now c.ranked.new.out e;
    }
