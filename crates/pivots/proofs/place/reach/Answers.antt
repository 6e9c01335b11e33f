-- `pivots::place::reach` meets its contract, by `bits-reached`.
-- Assumes nothing.
use native.Mathlib.Omega.{arith}
use borrow.Author.Rules.{rules}
use Rattle.meaning.specs.Rows.{count_below}
use Rattle.pivots.proofs.Placing.{bits-reached}
use Rattle.pivots.proofs.place.reach.Goals as goal

pub returns-then-n-eq0 : goal.returns-then-n-eq0
unfolding count_below
returns-then-n-eq0 c = search rules

pub returns : goal.returns
returns c =
    let j = c.nth.result in
    let p = bits-reached c.args.x c.args.n j c.if-n-eq0.false c.requires c.nth.ensures.0 in
    (omega arith, p.0, p.1)
