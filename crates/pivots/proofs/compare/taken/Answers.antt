-- `pivots::compare::taken` meets its contract. The invariant: the first w words are taken.
-- Assumes nothing.
use mathlib.Core.Path.{◌≡◌, ap, ◌∙◌}
use Prim.Native.Nat.{ℕ}
use Rattle.meaning.specs.Limits.{block_segments}
use Rattle.meaning.specs.Segment.{is_set}
use Rattle.pivots.proofs.Refining.{taken-set}
use native.Mathlib.Omega.{arith}
use Rattle.pivots.proofs.compare.taken.Goals as goal

pub returns : goal.returns
returns c =
    let w-is : c.loop-w.w ≡ block_segments = omega arith in
    let f = rw w-is at c.loop-w.invariant in
    record {
      bits = λ w j l. ap (λ (v : ℕ). is_set v j) (f.done w l) ∙ taken-set _ _ _ j;
    }
