-- `threshold::start::names` meets its contract.
-- Assumes nothing.
use lib.ListN.{length-set}
use Rattle.threshold.proofs.Starting.{name-more, all-names}
use native.Mathlib.Omega.{arith}
use Rattle.threshold.proofs.start.names.Goals as goal

pub loop-i-preserved : goal.loop-i-preserved
loop-i-preserved c =
    let h = c.loop-i in (simp length-set h.invariant.0, name-more h.list h.i (omega arith) h.invariant.1)

pub returns : goal.returns
returns c = let h = c.loop-i in all-names h.list h.invariant.0 (λ k l. h.invariant.1 k (omega arith))
