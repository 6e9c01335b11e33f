-- `pivots::compare::split` meets its contract. The invariant: the digits from place i on are compared.
-- Assumes nothing.
use mathlib.Core.Path.{◌≡◌}
use Rattle.meaning.specs.declared.Ranking.{Ranking}
use Rattle.laws.specs.Pivot.{lead}
use Rattle.pivots.proofs.Refining.{SplitFrom}
use Rattle.pivots.proofs.compare.split.Given as goal

abbrev pub invariant-loop-i : goal.invariant-loop-i
invariant-loop-i l = (op : Ranking) → lead op ≡ l.first → SplitFrom op l.x l.n l.pivot l.i l.s.ahead l.s.same
