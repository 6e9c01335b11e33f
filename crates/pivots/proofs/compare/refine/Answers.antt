-- `pivots::compare::refine` meets its contract. The invariant: the first w words are refined.
-- Assumes nothing.
use mathlib.Core.Path.{◌≡◌}
use Rattle.meaning.specs.Limits.{block_segments}
use Rattle.pivots.proofs.Refining.{refined-all}
use native.Mathlib.Omega.{arith}
use Rattle.pivots.proofs.compare.refine.Goals as goal

pub returns : goal.returns
returns c =
    let h = c.loop-w in
    let flip = c.filled-flip in
    let gain = c.filled-gain in
    let w-is : h.w ≡ block_segments = omega arith in
    refined-all flip.result gain.result c.requires flip.ensures gain.ensures (rw w-is at h.invariant.0)
    (rw w-is at h.invariant.1)
