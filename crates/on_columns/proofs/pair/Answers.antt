-- `on_columns::pair` meets its contract: the check, and then `columns::pair::pair`.
-- Assumes nothing.
use lib.ListN.{length}
use Rattle.meaning.specs.Answer.{check}
use Rattle.column_meaning.specs.Columns.{ask_pair, pair}
use Rattle.answers.proofs.Checks.{checked-index}
use Rattle.answers.proofs.Tells.{wrote-stopped, wrote_then}
use Rattle.on_columns.proofs.pair.Goals as goal

pub pair-requires : goal.pair-requires
pair-requires c = checked-index c.check.result c.args.index.now c.check.ensures c.in_ok-check.was

pub returns-in_err-check : goal.returns-in_err-check
unfolding pair
returns-in_err-check c =
    let a = c.args in
    wrote-stopped _ (check a.index.now) (ask_pair a.index.now a.op a.first.now a.second.now (length a.out.now)) _ _ _ c.check.ensures c.in_err-check.was c.from_residual.ensures.1

pub returns : goal.returns
unfolding pair
returns c =
    let a = c.args in
    wrote_then c.check.result (check a.index.now) (ask_pair a.index.now a.op a.first.now a.second.now (length a.out.now)) c.pair.result a.out.now c.pair.new.out c.check.ensures c.in_ok-check.was c.pair.ensures
