-- `zvonurel_c::zv_xor` meets its contract: `writes` of what `zvonurel::xor` told; no refusal of it has number 0. Assumes nothing.
use lib.ListN.{length}
use Rattle.meaning.specs.Answer as meaning
use Rattle.laws.proofs.Numbered as numbered
use Rattle.replies.proofs.Codes.{writes}
use Rattle.zvonurel_c.proofs.zv_xor.Goals as goal

pub returns : goal.returns
returns c =
    let a = c.args in
    writes (meaning.xor a.index.now a.j a.k (length a.out.now)) c.xor.result c.from.result a.out.now c.xor.new.out (numbered.xor a.index.now a.j a.k (length a.out.now)) c.from.ensures c.xor.ensures
