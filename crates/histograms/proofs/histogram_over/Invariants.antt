-- `histograms::histogram_over` meets its contract. The invariant: the cursors are on their way at segment o, and the
-- counts are the histogram of the first o segments.
-- Assumes nothing.
use Prim.Native.Nat.{◌-◌}
use Rattle.merge.proofs.Along.{Laid}
use Rattle.histograms.proofs.Histograms.{Counting}
use Rattle.histograms.proofs.histogram_over.Given as goal

abbrev pub invariant-loop-o : goal.invariant-loop-o
invariant-loop-o l = record {
  laid : Laid l.index l.frame;
  counting : Counting l.index l.list l.cursors l.s l.counts l.o;
}

abbrev pub decreases-loop-o : goal.decreases-loop-o
decreases-loop-o l = l.frame.segments - l.o
