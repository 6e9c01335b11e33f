-- `body_write::writer::push_run` meets its contract: in each format its own `push_run`'s, said of the segments.
-- Assumes nothing.
use native.Mathlib.Omega.{arith}
use lib.ListN.{replicate, length-replicate}
use Rattle.meaning.specs.Segment.{clean}
use Rattle.body_write.proofs.OfEwah.{ewah-room, ewah-pushed}
use Rattle.body_write.proofs.OfWah.{wah-fits}
use Rattle.body_write.proofs.writer.push_run.Goals as goal

pub push_run-requires-clause-room_for : goal.push_run-requires-clause-room_for
push_run-requires-clause-room_for c =
    let ss = replicate c.args.n (clean c.args.value) in
    let e = c.in-Ewah.is in
    let p = c.requires.value_bound in
    ewah-room ss (rw e at c.requires.room_for)

pub push_run-requires-in-Wah-clause-value_bound : goal.push_run-requires-in-Wah-clause-value_bound
push_run-requires-in-Wah-clause-value_bound c =
    let ss = replicate c.args.n (clean c.args.value) in
    let r = rw c.in-Wah.is at c.requires.room_for in
    let p = c.requires.value_bound in
    (p.0, p.1, omega (arith, wah-fits ss r, length-replicate c.args.n (clean c.args.value)))

pub returns-in-Ewah : goal.returns-in-Ewah
returns-in-Ewah c =
    λ real e.
    rw c.in-Ewah.is
    (ewah-pushed real (replicate c.args.n (clean c.args.value)) c.push_run.ensures)
