-- `walk::survey::advance` meets its contract. The invariant: the first i cursors went on, and the survey is theirs.
-- Assumes nothing.
use Rattle.walk.proofs.Places.{Going}
use Rattle.walk.proofs.survey.advance.Given as goal

abbrev pub invariant-loop-i : goal.invariant-loop-i
invariant-loop-i l = Going l.format l.index l.list l.initial.cursors l.n l.cursors l.s l.i
