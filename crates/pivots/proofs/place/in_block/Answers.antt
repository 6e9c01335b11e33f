-- `pivots::place::in_block` meets its contract, by `block-reached` and `block-passed`. The invariant: of `take` rows the
-- first i segments have all but those left.
-- Assumes nothing.
use mathlib.Core.Path.{◌≡◌}
use native.Mathlib.Omega.{arith}
use Rattle.meaning.specs.Rows.{sum_below}
use Rattle.pivots.proofs.Placing.{set_next, block-reached, block-passed}
use Rattle.pivots.proofs.place.in_block.Goals as goal

pub loop-i-init : goal.loop-i-init
unfolding sum_below
loop-i-init c = omega arith

pub returns-then-left-c : goal.returns-then-left-c
returns-then-left-c c F o p e h =
    let s = c.args in
    block-reached h s.w s.take c.loop-i.i c.loop-i.left c.reach.result e
    c.loop-i-test.true c.loop-i.invariant c.reach.ensures.1 c.reach.ensures.2

pub loop-i-preserved : goal.loop-i-preserved
loop-i-preserved c = omega (arith, set_next c.args.words c.loop-i.i)

pub returns : goal.returns
returns c F o p e h =
    let s = c.args in
    let i-is : c.loop-i.i ≡ s.n = omega arith in
    block-passed h s.w s.take c.loop-i.left e (rw i-is at c.loop-i.invariant)
