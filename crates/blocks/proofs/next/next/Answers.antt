-- `blocks::next::next` meets its contract: what is chosen can be gathered (`before`), and is the next block (`next-placed`); of
-- just as many cursors as places there still are just as many (`next-walking`).
-- Assumes nothing.
use native.Mathlib.Omega.{arith}
use Rattle.blocks.proofs.Walks.{before, next-placed, next-walking}
use Rattle.blocks.proofs.next.next.Goals as goal

pub gather-requires-clause-standing_before : goal.gather-requires-clause-standing_before
gather-requires-clause-standing_before c =
    let r = c.requires in
    before r.walking r.index_facts r.listed _ (omega (arith, c.choose-step.ensures.within, r.format_value.4))

pub returns-clause-block : goal.returns-clause-block
returns-clause-block c =
    let r = c.requires in
    let t = r.format_value in
    next-placed r.walking t.1 c.choose-step.ensures (λ k h. c.nearest-near.ensures k (omega (arith, h, r.walking.long))) r.index_facts r.listed t.4 r.cleared c.gather.ensures

pub returns-clause-as_many : goal.returns-clause-as_many
returns-clause-as_many c many = next-walking (omega (arith, c.gather.ensures.long, many)) (returns-clause-block c)
