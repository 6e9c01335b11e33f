-- `zvonurel_c::zv_symmetric` meets its contract: `reports` of what `zvonurel::symmetric` told; no refusal of it has number 0. Assumes nothing.
use lib.ListN.{length}
use Rattle.meaning.specs.Answer as meaning
use Rattle.laws.proofs.Numbered as numbered
use Rattle.replies.proofs.Codes.{reports}
use Rattle.zvonurel_c.proofs.zv_symmetric.Goals as goal

pub returns : goal.returns
returns c =
    let a = c.args in
    reports a.index.now a.list.now (meaning.symmetric a.index.now a.list.now a.table.now (length a.out.now)) c.symmetric.result c.from.result a.out.now c.symmetric.new.out (numbered.symmetric a.index.now a.list.now a.table.now (length a.out.now)) c.from.ensures c.symmetric.ensures
