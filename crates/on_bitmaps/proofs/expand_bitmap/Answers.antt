-- `on_bitmaps::expand_bitmap` meets its contract: the bitmap's refusal; or, by `known-index`, a bitmap of a sound index, and then
-- `bitmaps::plain`. Assumes nothing.
use lib.ListN.{length}
use Rattle.meaning.specs.Index.{row_count, rows_at}
use Rattle.meaning.specs.Answer.{bitmap_refusal, ask_plain, expand_bitmap}
use Rattle.answers.proofs.Tells.{wrote-stopped, wrote_then}
use Rattle.on_bitmaps.proofs.Guards.{known-index}
use Rattle.on_bitmaps.proofs.expand_bitmap.Goals as goal

pub plain-requires : goal.plain-requires
plain-requires c =
    let k = c.bitmap_refusal in let both = known-index k.result _ _ k.ensures c.in_ok-bitmap_refusal.was in record { index_facts = both.0; k_bound = both.1 }

pub returns-in_err-bitmap_refusal : goal.returns-in_err-bitmap_refusal
unfolding expand_bitmap
returns-in_err-bitmap_refusal c =
    let a = c.args in
    wrote-stopped _ (bitmap_refusal a.index.now a.k) (ask_plain (row_count a.index.now) (rows_at a.index.now a.k) (length a.out.now)) _ _ _ c.bitmap_refusal.ensures c.in_err-bitmap_refusal.was c.from_residual.ensures.1

pub returns : goal.returns
unfolding expand_bitmap
returns c =
    let a = c.args in
    wrote_then c.bitmap_refusal.result (bitmap_refusal a.index.now a.k)
    (ask_plain (row_count a.index.now) (rows_at a.index.now a.k) (length a.out.now))
    c.plain.result a.out.now c.plain.new.out c.bitmap_refusal.ensures c.in_ok-bitmap_refusal.was c.plain.ensures
