-- `popcount::planes::weigh` meets its contract: the set bits of each plane by its weight.
-- Assumes nothing.
use mathlib.Core.Path.{ap₂}
use Prim.Native.Nat.{ℕ, ◌+◌, ◌*◌}
use Rattle.popcount.specs.Weights.{weight}
use Rattle.popcount.proofs.planes.weigh.Goals as goal

pub returns : goal.returns
unfolding weight
returns c =
    ap₂ (λ (m n : ℕ). m + 8 * n)
    (ap₂ (λ (m n : ℕ). m + 4 * n)
    (ap₂ (λ (m n : ℕ). m + 2 * n) c.set_bits.ensures.0
    c.set_bits-2.ensures.0) c.set_bits-3.ensures.0) c.set_bits-4.ensures.0
