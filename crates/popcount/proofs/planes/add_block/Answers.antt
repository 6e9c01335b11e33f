-- `popcount::planes::add_block` meets its contract: `set-block`, and by `sums-weighed` the sums of the adders, each with
-- its weight.
-- Assumes nothing.
use mathlib.Core.Path.{sym, ap, ◌∙◌}
use Prim.Native.Nat.{ℕ, ◌+◌}
use Rattle.popcount.specs.Weights.{summed, weight}
use Rattle.popcount.proofs.Counted.{set-block, sum-on, sums-weighed}
use Rattle.popcount.proofs.planes.add_block.Goals as goal

-- what each call told, from the last back to the first; then pairs of sums, and pairs of these
pub returns : goal.returns
unfolding summed weight
returns c =
    let s = c.args in
    let first = sum-on _ _ _ _ _ _ _ c.add_pair-a0.ensures c.add_pair-a1.ensures in
    let second = sum-on _ _ _ _ _ _ _ c.add_pair-a2.ensures c.add_pair-a3.ensures in
    let third = sum-on _ _ _ _ _ _ _ c.add_pair-a4.ensures c.add_pair-a5.ensures in
    let fourth = sum-on _ _ _ _ _ _ _ c.add_pair-a6.ensures c.add_pair-a7.ensures in
    let ones = sum-on _ _ _ _ _ _ _ (sum-on _ _ _ _ _ _ _ first second) (sum-on _ _ _ _ _ _ _ third fourth) in
    let low-twos = sum-on _ _ _ _ _ _ _ c.add_carries-b0.ensures c.add_carries-b1.ensures in
    let high-twos = sum-on _ _ _ _ _ _ _ c.add_carries-b2.ensures c.add_carries-b3.ensures in
    let twos = sum-on _ _ _ _ _ _ _ low-twos high-twos in
    let fours = sum-on _ _ _ _ _ _ _ c.add_carries-c0.ensures c.add_carries-c1.ensures in
    sums-weighed _ _ _ _ _ _ _ _ _ _ _ _ _ ones twos fours c.add_carries-d.ensures
    ∙ ap (λ (n : ℕ). n + weight s.p) (sym (set-block s.block.now 0))
