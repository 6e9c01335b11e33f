-- `zvonurel_c::zv_signed_difference` meets its contract: `writes` of what `zvonurel::signed_difference` told; no refusal of it has number 0. Assumes nothing.
use lib.ListN.{length}
use Rattle.column_meaning.specs.Columns as columns
use Rattle.meaning.specs.declared.Pairing.TheVariants.{Difference}
use Rattle.laws.proofs.Numbered as numbered
use Rattle.replies.proofs.Codes.{writes}
use Rattle.zvonurel_c.proofs.zv_signed_difference.Goals as goal

pub returns : goal.returns
returns c =
    let a = c.args in
    writes (columns.signed_difference a.index.now a.first.now a.second.now (length a.out.now)) c.signed_difference.result c.from.result a.out.now c.signed_difference.new.out (numbered.pair a.index.now Difference a.first.now a.second.now (length a.out.now)) c.from.ensures c.signed_difference.ensures
