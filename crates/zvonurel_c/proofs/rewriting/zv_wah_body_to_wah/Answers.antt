-- `zvonurel_c::rewriting::zv_wah_body_to_wah` meets its contract: `writes` of what `zvonurel::rewrite` told; no refusal of it has number 0.
-- Assumes nothing.
use lib.ListN.{length}
use Rattle.meaning.specs.declared.Format.TheVariants.{Wah}
use Rattle.meaning.specs.Rewriting as rewriting
use Rattle.laws.proofs.Numbered as numbered
use Rattle.replies.proofs.Codes.{writes}
use Rattle.zvonurel_c.proofs.rewriting.zv_wah_body_to_wah.Goals as goal

pub returns : goal.returns
returns c =
    let x = c.rewrite in
    let a = c.args in
    writes (rewriting.rewrite Wah Wah a.rows a.body.now (length a.out.now)) x.result c.from.result a.out.now x.new.out
    (numbered.rewrite Wah Wah a.rows a.body.now (length a.out.now)) c.from.ensures x.ensures
