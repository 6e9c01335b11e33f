-- `body_write::writer::grow_segment` meets its contract: in each format its own `grow_segment`'s, said of the
-- segments.
-- Assumes nothing.
use native.Mathlib.Omega.{arith}
use Rattle.body_write.proofs.OfEwah.{ewah-growing}
use Rattle.body_write.proofs.OfWah.{wah-growing}
use Rattle.body_write.proofs.writer.grow_segment.Goals as goal

pub grow_segment-requires-clause-used_bound : goal.grow_segment-requires-clause-used_bound
grow_segment-requires-clause-used_bound c =
    let both = ewah-growing 1 (rw c.in-Ewah.is at c.requires) in
    both.1

pub grow_segment-requires-in-Wah : goal.grow_segment-requires-in-Wah
grow_segment-requires-in-Wah c =
    let g = wah-growing 1 (rw c.in-Wah.is at c.requires) in
    (g.0, omega arith)
