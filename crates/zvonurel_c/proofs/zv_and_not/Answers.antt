-- `zvonurel_c::zv_and_not` meets its contract: `writes` of what `zvonurel::and_not` told; no refusal of it has number 0. Assumes nothing.
use lib.ListN.{length}
use Rattle.meaning.specs.Answer as meaning
use Rattle.laws.proofs.Numbered as numbered
use Rattle.replies.proofs.Codes.{writes}
use Rattle.zvonurel_c.proofs.zv_and_not.Goals as goal

pub returns : goal.returns
returns c =
    let a = c.args in
    writes (meaning.and_not a.index.now a.j a.k (length a.out.now)) c.and_not.result c.from.result a.out.now c.and_not.new.out (numbered.and-not a.index.now a.j a.k (length a.out.now)) c.from.ensures c.and_not.ensures
