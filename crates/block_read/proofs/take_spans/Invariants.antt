-- `block_read::take_spans` meets its contract. The invariant: `done` segments are taken.
-- Assumes nothing.
use Prim.Native.Nat.{◌-◌, ◌≤◌}
use lib.ListN.{length}
use Rattle.block_read.specs.Taken.{SpanTaken}
use Rattle.block_read.proofs.take_spans.Given as goal

abbrev pub invariant-loop-done : goal.invariant-loop-done
invariant-loop-done l = (l.done ≤ length l.row) × SpanTaken l.format l.body l.initial.c l.done l.row l.c

abbrev pub decreases-loop-done : goal.decreases-loop-done
decreases-loop-done l = length l.row - l.done
