-- `extend::feed` meets its contract. The invariant: the first words of the batch were put.
-- Assumes nothing.
use mathlib.Core.Path.{◌≡◌}
use Rattle.extend.proofs.Feeding.{Fed}
use Rattle.extend.proofs.feed.Given as goal

abbrev pub invariant-loop-x : goal.invariant-loop-x
invariant-loop-x g l =
    (g.S.Sink.name l.out ≡ g.S.Sink.name l.initial.out)
    × Fed (g.S.Sink.words l.initial.out) l.initial.v l.plain l.rows g.S.Sink.stores (g.S.Sink.words l.out) l.v l.left l.x-index
