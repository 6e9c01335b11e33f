-- `zvonurel_c::zv_expand_bitmap` meets its contract: `writes` of what `zvonurel::expand_bitmap` told; no refusal of it has number 0. Assumes nothing.
use lib.ListN.{length}
use Rattle.meaning.specs.Answer as meaning
use Rattle.laws.proofs.Numbered as numbered
use Rattle.replies.proofs.Codes.{writes}
use Rattle.zvonurel_c.proofs.zv_expand_bitmap.Goals as goal

pub returns : goal.returns
returns c =
    let a = c.args in
    writes (meaning.expand_bitmap a.index.now a.k (length a.out.now)) c.expand_bitmap.result c.from.result a.out.now c.expand_bitmap.new.out (numbered.expand-bitmap a.index.now a.k (length a.out.now)) c.from.ensures c.expand_bitmap.ensures
