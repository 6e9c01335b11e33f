-- `on_bitmaps::count` meets its contract: the bitmap's refusal; or, by `known-index`, a bitmap of a sound index, and then
-- `bitmaps::count`. Assumes nothing.
use mathlib.Core.Path.{ap}
use Rattle.meaning.specs.Refusal.{answer}
use Rattle.meaning.specs.Index.{row_count, rows_at}
use Rattle.meaning.specs.Answer.{bitmap_refusal, ask_count, count}
use Rattle.answers.specs.Told.{outcome_of}
use Rattle.answers.proofs.Checks.{stopped, answers}
use Rattle.on_bitmaps.proofs.Guards.{known-index}
use Rattle.on_bitmaps.proofs.count.Goals as goal

pub count-requires : goal.count-requires
count-requires c =
    let k = c.bitmap_refusal in let both = known-index k.result _ _ k.ensures c.in_ok-bitmap_refusal.was in record { index_facts = both.0; k_bound = both.1 }

pub returns-in_err-bitmap_refusal : goal.returns-in_err-bitmap_refusal
unfolding outcome_of count
returns-in_err-bitmap_refusal c =
    let a = c.args in
    stopped c.bitmap_refusal.result (bitmap_refusal a.index.now a.k) c.bitmap_refusal.ensures (ask_count (row_count a.index.now) (rows_at a.index.now a.k)) c.from_residual.result _ c.in_err-bitmap_refusal.was c.from_residual.ensures.1

pub returns : goal.returns
unfolding outcome_of ask_count count
returns c =
    let a = c.args in
    answers c.bitmap_refusal.result (bitmap_refusal a.index.now a.k) c.bitmap_refusal.ensures
    (ask_count (row_count a.index.now) (rows_at a.index.now a.k)) (answer c.count.result) c.in_ok-bitmap_refusal.was
    (ap answer c.count.ensures)
