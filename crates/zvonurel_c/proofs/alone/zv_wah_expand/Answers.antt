-- `zvonurel_c::alone::zv_wah_expand` meets its contract: `writes` of what `zvonurel::expand` told; no refusal of it has number 0. Assumes nothing.
use lib.ListN.{length}
use Rattle.meaning.specs.declared.Format.TheVariants.{Wah}
use Rattle.meaning.specs.Answer as meaning
use Rattle.laws.proofs.Numbered as numbered
use Rattle.replies.proofs.Codes.{writes}
use Rattle.zvonurel_c.proofs.alone.zv_wah_expand.Goals as goal

pub returns : goal.returns
returns c =
    let a = c.args in
    writes (meaning.expand Wah a.rows a.body.now (length a.out.now)) c.expand.result c.from.result a.out.now c.expand.new.out (numbered.expand Wah a.rows a.body.now (length a.out.now)) c.from.ensures c.expand.ensures
