-- `body_write::writer::grow_run` meets its contract: in each format its own `grow_run`'s, said of the segments.
-- Assumes nothing.
use Rattle.body_write.proofs.OfEwah.{ewah-growing}
use Rattle.body_write.proofs.OfWah.{wah-growing}
use Rattle.body_write.proofs.writer.grow_run.Goals as goal

pub grow_run-requires-clause-used_bound : goal.grow_run-requires-clause-used_bound
grow_run-requires-clause-used_bound c =
    let e = c.in-Ewah.is in
    let g = ewah-growing c.args.n (rw e at c.requires.growing) in
    let p = c.requires.value_bound in
    (g.1, p.0, rw e at p.2)

pub grow_run-requires-in-Wah : goal.grow_run-requires-in-Wah
grow_run-requires-in-Wah c =
    let g = wah-growing c.args.n (rw c.in-Wah.is at c.requires.growing) in
    let p = c.requires.value_bound in
    (g.0, p.0, p.1, g.1)
