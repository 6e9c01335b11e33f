-- `on_bitmaps::rewrite_bitmap` meets its contract: the bitmap's refusal; or, by `known-index`, a bitmap of a sound index, and then
-- `bitmaps::rewrite`. Assumes nothing.
use lib.ListN.{length}
use Rattle.meaning.specs.Index.{row_count, rows_at}
use Rattle.meaning.specs.Answer.{bitmap_refusal, write}
use Rattle.meaning.specs.Rewriting.{rewrite_bitmap}
use Rattle.answers.proofs.Tells.{wrote-stopped, wrote_then}
use Rattle.on_bitmaps.proofs.Guards.{known-index}
use Rattle.on_bitmaps.proofs.rewrite_bitmap.Goals as goal

pub rewrite-requires : goal.rewrite-requires
rewrite-requires c =
    let k = c.bitmap_refusal in let both = known-index k.result _ _ k.ensures c.in_ok-bitmap_refusal.was in record { index_facts = both.0; k_bound = both.1 }

pub returns-in_err-bitmap_refusal : goal.returns-in_err-bitmap_refusal
unfolding rewrite_bitmap
returns-in_err-bitmap_refusal c =
    let a = c.args in
    wrote-stopped _ (bitmap_refusal a.index.now a.k) (write a.to (row_count a.index.now) (rows_at a.index.now a.k) (length a.out.now)) _ _ _ c.bitmap_refusal.ensures c.in_err-bitmap_refusal.was c.from_residual.ensures.1

pub returns : goal.returns
unfolding rewrite_bitmap
returns c =
    let a = c.args in
    wrote_then c.bitmap_refusal.result (bitmap_refusal a.index.now a.k)
    (write a.to (row_count a.index.now) (rows_at a.index.now a.k) (length a.out.now))
    c.rewrite.result a.out.now c.rewrite.new.out c.bitmap_refusal.ensures c.in_ok-bitmap_refusal.was c.rewrite.ensures
