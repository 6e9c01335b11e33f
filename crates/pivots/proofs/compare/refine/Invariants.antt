-- `pivots::compare::refine` meets its contract. The invariant: the first w words are refined.
-- Assumes nothing.
use Rattle.words.proofs.Entries.{Filled}
use Rattle.pivots.proofs.Refining.{ahead_at, same_at}
use Rattle.pivots.proofs.compare.refine.Given as goal

abbrev pub invariant-loop-w : goal.invariant-loop-w
invariant-loop-w l = Filled (ahead_at l.before l.agreed l.x l.flip l.gain) l.initial.ahead l.ahead l.w × Filled (same_at l.agreed l.x l.flip) l.initial.same l.same l.w
