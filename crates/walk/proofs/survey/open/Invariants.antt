-- `walk::survey::open` meets its contract. The invariant: the first i cursors stand on the first piece of their bodies.
-- Assumes nothing.
use mathlib.Core.Path.{◌≡◌}
use lib.ListN.{length}
use Rattle.walk.specs.Queries.{Standing}
use Rattle.walk.proofs.survey.open.Given as goal

abbrev pub invariant-loop-i : goal.invariant-loop-i
invariant-loop-i l = record {
  long : length l.cursors ≡ length l.initial.cursors;
  standing : Standing l.format l.index l.list l.cursors l.i 0;
}
