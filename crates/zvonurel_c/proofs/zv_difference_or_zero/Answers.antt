-- `zvonurel_c::zv_difference_or_zero` meets its contract: `writes` of what `zvonurel::difference_or_zero` told; no refusal of it has number 0. Assumes nothing.
use lib.ListN.{length}
use Rattle.column_meaning.specs.Columns as columns
use Rattle.meaning.specs.declared.Pairing.TheVariants.{DifferenceOrZero}
use Rattle.laws.proofs.Numbered as numbered
use Rattle.replies.proofs.Codes.{writes}
use Rattle.zvonurel_c.proofs.zv_difference_or_zero.Goals as goal

pub returns : goal.returns
returns c =
    let a = c.args in
    writes (columns.difference_or_zero a.index.now a.first.now a.second.now (length a.out.now)) c.difference_or_zero.result c.from.result a.out.now c.difference_or_zero.new.out (numbered.pair a.index.now DifferenceOrZero a.first.now a.second.now (length a.out.now)) c.from.ensures c.difference_or_zero.ensures
