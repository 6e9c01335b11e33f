-- `on_bitmaps::nth` meets its contract: the bitmap's refusal; or, by `known-index`, a bitmap of a sound index, and then
-- `bitmaps::nth`. Assumes nothing.
use Rattle.meaning.specs.Index.{row_count, rows_at}
use Rattle.meaning.specs.Answer.{bitmap_refusal, ask_nth, nth}
use Rattle.answers.specs.Told.{outcome_of}
use Rattle.answers.proofs.Checks.{stopped, answers}
use Rattle.on_bitmaps.proofs.Guards.{known-index}
use Rattle.on_bitmaps.proofs.nth.Goals as goal

pub nth-requires : goal.nth-requires
nth-requires c =
    let k = c.bitmap_refusal in let both = known-index k.result _ _ k.ensures c.in_ok-bitmap_refusal.was in record { index_facts = both.0; k_bound = both.1 }

pub returns-in_err-bitmap_refusal : goal.returns-in_err-bitmap_refusal
unfolding outcome_of nth
returns-in_err-bitmap_refusal c =
    let a = c.args in
    stopped c.bitmap_refusal.result (bitmap_refusal a.index.now a.k) c.bitmap_refusal.ensures (ask_nth (row_count a.index.now) (rows_at a.index.now a.k) a.n) c.from_residual.result _ c.in_err-bitmap_refusal.was c.from_residual.ensures.1

pub returns : goal.returns
unfolding nth
returns c =
    let a = c.args in
    answers c.bitmap_refusal.result (bitmap_refusal a.index.now a.k) c.bitmap_refusal.ensures
    (ask_nth (row_count a.index.now) (rows_at a.index.now a.k) a.n) (outcome_of c.nth.result) c.in_ok-bitmap_refusal.was
    c.nth.ensures
