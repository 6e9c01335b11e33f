-- `on_bitmaps::rewrite_index` meets its contract: the check, and then `archive::rewrite`.
-- Assumes nothing.
use lib.ListN.{length}
use Rattle.meaning.specs.Answer.{check}
use Rattle.meaning.specs.Index.{row_count, bitmap_count}
use Rattle.meaning.specs.NewIndex.{write_index}
use Rattle.meaning.specs.Rewriting.{sets_from, rewrite_index}
use Rattle.answers.proofs.Checks.{checked-index}
use Rattle.answers.proofs.Tells.{wrote-stopped, wrote_then}
use Rattle.on_bitmaps.proofs.rewrite_index.Goals as goal

pub rewrite-requires : goal.rewrite-requires
rewrite-requires c = checked-index c.check.result c.args.index.now c.check.ensures c.in_ok-check.was

pub returns-in_err-check : goal.returns-in_err-check
unfolding rewrite_index
returns-in_err-check c =
    let a = c.args in
    wrote-stopped _ (check a.index.now) (write_index a.to (row_count a.index.now) (sets_from a.index.now 0 (bitmap_count a.index.now)) (length a.out.now)) _ _ _ c.check.ensures c.in_err-check.was c.from_residual.ensures.1

pub returns : goal.returns
unfolding rewrite_index
returns c =
    let a = c.args in
    wrote_then c.check.result (check a.index.now) (write_index a.to (row_count a.index.now) (sets_from a.index.now 0 (bitmap_count a.index.now)) (length a.out.now)) c.rewrite.result a.out.now c.rewrite.new.out c.check.ensures c.in_ok-check.was c.rewrite.ensures
