-- `zvonurel_c::alone::zv_wah_compress` meets its contract: `writes` of what `zvonurel::compress` told; no refusal of it has number 0. Assumes nothing.
use lib.ListN.{length}
use Rattle.meaning.specs.declared.Format.TheVariants.{Wah}
use Rattle.meaning.specs.Answer as meaning
use Rattle.laws.proofs.Numbered as numbered
use Rattle.replies.proofs.Codes.{writes}
use Rattle.zvonurel_c.proofs.alone.zv_wah_compress.Goals as goal

pub returns : goal.returns
returns c =
    let a = c.args in
    writes (meaning.compress Wah a.rows a.plain.now (length a.out.now)) c.compress.result c.from.result a.out.now c.compress.new.out (numbered.compress Wah a.rows a.plain.now (length a.out.now)) c.from.ensures c.compress.ensures
