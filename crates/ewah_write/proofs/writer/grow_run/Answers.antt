-- `ewah_write::writer::grow_run` meets its contract: `grown-in` and `grown-over` are its two ways. Assumes nothing.
use Rattle.ewah_write.proofs.Growing.{grown-in, grown-over}
use Rattle.ewah_write.proofs.writer.grow_run.Goals as goal

pub returns-then-n-room : goal.returns-then-n-room
returns-then-n-room c =
    grown-in c.args.w c.args.value c.args.n c.free-room.result c.free-room.ensures c.if-n-room.true

pub returns : goal.returns
returns c =
    grown-over c.args.w c.args.value c.args.n c.free-room.result c.free-room.ensures c.if-n-room.false
    c.requires.used_bound.2 c.requires.used_bound.1
