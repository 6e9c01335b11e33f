-- `zvonurel_c::zv_smaller` meets its contract: `writes` of what `zvonurel::smaller` told; no refusal of it has number 0. Assumes nothing.
use lib.ListN.{length}
use Rattle.column_meaning.specs.Columns as columns
use Rattle.meaning.specs.declared.Pairing.TheVariants.{Smaller}
use Rattle.laws.proofs.Numbered as numbered
use Rattle.replies.proofs.Codes.{writes}
use Rattle.zvonurel_c.proofs.zv_smaller.Goals as goal

pub returns : goal.returns
returns c =
    let a = c.args in
    writes (columns.smaller a.index.now a.first.now a.second.now (length a.out.now)) c.smaller.result c.from.result a.out.now c.smaller.new.out (numbered.pair a.index.now Smaller a.first.now a.second.now (length a.out.now)) c.from.ensures c.smaller.ensures
