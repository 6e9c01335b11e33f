-- `resume::resume` meets its contract: the walk stands before each marker, and ends with the last segment. Assumes nothing.
use Prim.Native.Nat.{◌-◌}
use lib.ListN.{length}
use Rattle.resume.proofs.Walking.{Stood}
use Rattle.resume.proofs.resume.Given as goal

abbrev pub invariant-loop-at : goal.invariant-loop-at
invariant-loop-at l = Stood l.body l.before l.w l.at

abbrev pub decreases-loop-at : goal.decreases-loop-at
decreases-loop-at l = length l.body - l.at
