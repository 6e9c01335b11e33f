-- `wah_write::writer::grow_mixed` meets its contract: `grown-literal` says so. Assumes nothing.
use Rattle.wah_write.proofs.Growing.{grown-literal}
use Rattle.wah_write.proofs.writer.grow_mixed.Goals as goal

pub returns : goal.returns
returns c = λ x. rw c.ending.ensures (grown-literal c.args.w x)
