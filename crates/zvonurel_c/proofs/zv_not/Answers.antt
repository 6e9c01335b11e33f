-- `zvonurel_c::zv_not` meets its contract: `writes` of what `zvonurel::not` told; no refusal of it has number 0. Assumes nothing.
use lib.ListN.{length}
use Rattle.meaning.specs.Answer as meaning
use Rattle.laws.proofs.Numbered as numbered
use Rattle.replies.proofs.Codes.{writes}
use Rattle.zvonurel_c.proofs.zv_not.Goals as goal

pub returns : goal.returns
returns c =
    let a = c.args in
    writes (meaning.not_of a.index.now a.k (length a.out.now)) c.not.result c.from.result a.out.now c.not.new.out (numbered.not-of a.index.now a.k (length a.out.now)) c.from.ensures c.not.ensures
