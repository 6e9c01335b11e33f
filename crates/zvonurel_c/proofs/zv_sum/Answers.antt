-- `zvonurel_c::zv_sum` meets its contract: `writes` of what `zvonurel::sum` told; no refusal of it has number 0. Assumes nothing.
use lib.ListN.{length}
use Rattle.column_meaning.specs.Columns as columns
use Rattle.meaning.specs.declared.Pairing.TheVariants.{Sum}
use Rattle.laws.proofs.Numbered as numbered
use Rattle.replies.proofs.Codes.{writes}
use Rattle.zvonurel_c.proofs.zv_sum.Goals as goal

pub returns : goal.returns
returns c =
    let a = c.args in
    writes (columns.sum a.index.now a.first.now a.second.now (length a.out.now)) c.sum.result c.from.result a.out.now c.sum.new.out (numbered.pair a.index.now Sum a.first.now a.second.now (length a.out.now)) c.from.ensures c.sum.ensures
