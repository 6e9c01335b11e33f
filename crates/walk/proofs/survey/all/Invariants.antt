-- `walk::survey::all` meets its contract. The invariant: the survey is that of the places passed.
-- Assumes nothing.
use Rattle.walk.specs.Surveys.{Surveyed}
use Rattle.walk.proofs.survey.all.Given as goal

abbrev pub invariant-loop-c : goal.invariant-loop-c
invariant-loop-c l = Surveyed l.cursors l.c-index l.s
