-- `body_write::writer::push_segment` meets its contract: in each format its own `push_segment`'s, said of the
-- segments.
-- Assumes nothing.
use mathlib.Core.List.{[], ◌∷◌}
use native.Mathlib.Omega.{arith}
use Rattle.meaning.specs.Segment.{kind}
use Rattle.body_write.proofs.OfEwah.{ewah-room, ewah-pushed}
use Rattle.body_write.proofs.OfWah.{wah-fits}
use Rattle.body_write.proofs.writer.push_segment.Goals as goal

pub push_segment-requires : goal.push_segment-requires
push_segment-requires c =
    ewah-room (kind 32 c.args.x ∷ []) (rw c.in-Ewah.is at c.requires)

pub push_segment-requires-in-Wah-clause-clean_lt_most_fill : goal.push_segment-requires-in-Wah-clause-clean_lt_most_fill
push_segment-requires-in-Wah-clause-clean_lt_most_fill c =
    let ss = kind 31 c.args.x ∷ [] in
    let r = rw c.in-Wah.is at c.requires in
    omega (arith, wah-fits ss r)

pub returns-in-Ewah : goal.returns-in-Ewah
returns-in-Ewah c =
    λ real e.
    rw c.in-Ewah.is
    (ewah-pushed real (kind 32 c.args.x ∷ []) c.push_segment.ensures)
