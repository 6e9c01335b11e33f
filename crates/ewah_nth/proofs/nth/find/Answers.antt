-- `ewah_nth::nth::find` meets its contract. The invariant: with the bits of the first i words passed, so many set bits are still ahead.
-- Assumes nothing.
use borrow.Author.Rules.{rules}
use native.Mathlib.Omega.{arith}
use Prim.Native.Nat.{◌<◌}
use lib.Dec.{lit<}
use lib.ListN.{get_or}
use Rattle.meaning.specs.Rows.{count_below}
use Rattle.meaning.specs.Segment.{ones, is_set}
use Rattle.laws.specs.Demands.{IsNth}
use Rattle.laws.proofs.Counted.{nth-holds}
use Rattle.laws.proofs.Counting.{ones-next, nth-word}
use Rattle.ewah_nth.proofs.nth.find.Goals as goal

pub loop-i-init : goal.loop-i-init
unfolding ones
loop-i-init c = search rules

pub returns-then-ahead-here : goal.returns-then-ahead-here
returns-then-ahead-here c =
    let h = c.loop-i in
    let ws = c.args.ws.now in
    let x = get_or ws h.i 0 in
    let few : h.ahead < count_below 32 (is_set x) = rw c.count-here.ensures at c.if-ahead-here.true in
    let j : IsNth 32 (is_set x) h.ahead c.nth.result = rw c.nth.ensures.0 (nth-holds 32 (is_set x) h.ahead few).is in
    rw h.invariant at (nth-word 32 (lit< tt) ws h.i h.ahead c.nth.result (omega arith) j)

pub loop-i-preserved : goal.loop-i-preserved
loop-i-preserved c = omega (arith, ones-next 32 c.args.ws.now c.loop-i.i, c.count-here.ensures)
