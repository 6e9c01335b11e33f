-- `pivots::compare::taken` meets its contract. The invariant: the first w words are taken.
-- Assumes nothing.
use Rattle.words.proofs.Entries.{Filled}
use Rattle.pivots.proofs.Refining.{taken_word}
use Rattle.pivots.proofs.compare.taken.Given as goal

abbrev pub invariant-loop-w : goal.invariant-loop-w
invariant-loop-w l = Filled (taken_word l.keep l.ahead l.same) l.initial.r l.r l.w
