-- `zvonurel_c::zv_or` meets its contract: `writes` of what `zvonurel::or` told; no refusal of it has number 0. Assumes nothing.
use lib.ListN.{length}
use Rattle.meaning.specs.Answer as meaning
use Rattle.laws.proofs.Numbered as numbered
use Rattle.replies.proofs.Codes.{writes}
use Rattle.zvonurel_c.proofs.zv_or.Goals as goal

pub returns : goal.returns
returns c =
    let a = c.args in
    writes (meaning.or a.index.now a.j a.k (length a.out.now)) c.or.result c.from.result a.out.now c.or.new.out (numbered.or a.index.now a.j a.k (length a.out.now)) c.from.ensures c.or.ensures
