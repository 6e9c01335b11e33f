-- `on_bitmaps::row` meets its contract: the bitmap's refusal; or, by `known-index`, a bitmap of a sound index, and then
-- `bitmaps::row`. Assumes nothing.
use Rattle.meaning.specs.Index.{format_of, row_count, body_at}
use Rattle.meaning.specs.Answer.{bitmap_refusal, ask_row, row}
use Rattle.answers.specs.Told.{outcome_of}
use Rattle.answers.proofs.Checks.{stopped, answers}
use Rattle.on_bitmaps.proofs.Guards.{known-index}
use Rattle.on_bitmaps.proofs.row.Goals as goal

pub row-requires : goal.row-requires
row-requires c =
    let k = c.bitmap_refusal in let both = known-index k.result _ _ k.ensures c.in_ok-bitmap_refusal.was in record { index_facts = both.0; k_bound = both.1 }

pub returns-in_err-bitmap_refusal : goal.returns-in_err-bitmap_refusal
unfolding outcome_of row
returns-in_err-bitmap_refusal c =
    let a = c.args in
    stopped c.bitmap_refusal.result (bitmap_refusal a.index.now a.k) c.bitmap_refusal.ensures (ask_row (format_of a.index.now) (row_count a.index.now) (body_at a.index.now a.k) a.row) c.from_residual.result _ c.in_err-bitmap_refusal.was c.from_residual.ensures.1

pub returns : goal.returns
unfolding row
returns c =
    let a = c.args in
    answers c.bitmap_refusal.result (bitmap_refusal a.index.now a.k) c.bitmap_refusal.ensures
    (ask_row (format_of a.index.now) (row_count a.index.now) (body_at a.index.now a.k) a.row) (outcome_of c.row.result) c.in_ok-bitmap_refusal.was
    c.row.ensures
