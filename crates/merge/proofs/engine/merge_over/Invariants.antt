-- `merge::engine::merge_over` meets its contract. The invariant: the cursors are on their way at segment o, and the writer
-- has put the answer's first o segments.
-- Assumes nothing.
use Prim.Native.Nat.{◌-◌}
use Rattle.merge.proofs.Along.{Laid}
use Rattle.merge.proofs.Merging.{Merging}
use Rattle.merge.proofs.engine.merge_over.Given as goal

abbrev pub invariant-loop-o : goal.invariant-loop-o
invariant-loop-o l = record {
  laid : Laid l.index l.frame;
  merging : Merging l.index l.list l.op l.table l.initial.out l.store l.out l.cursors l.s l.w l.o l.stretches;
}

abbrev pub decreases-loop-o : goal.decreases-loop-o
decreases-loop-o l = l.frame.segments - l.o
