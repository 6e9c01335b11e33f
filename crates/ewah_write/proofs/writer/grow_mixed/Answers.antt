-- `ewah_write::writer::grow_mixed` meets its contract: `grown-dirty` and `grown-opened` are its two ways. Assumes nothing.
use Rattle.ewah_write.proofs.Growing.{grown-dirty, grown-opened}
use Rattle.ewah_write.proofs.writer.grow_mixed.Goals as goal

pub returns-then-last-lt-MOST_DIRTY : goal.returns-then-last-lt-MOST_DIRTY
returns-then-last-lt-MOST_DIRTY c = grown-dirty c.args.w c.if-last-lt-MOST_DIRTY.true

pub returns : goal.returns
returns c = grown-opened c.args.w c.if-last-lt-MOST_DIRTY.false
