-- `counters::add` meets its contract. The invariant: the word has been added to the planes below k, up to the carry.
-- Assumes nothing.
use mathlib.Core.Path.{◌≡◌}
use Rattle.meaning.specs.Limits.{counter_planes}
use Rattle.counters.proofs.CounterLaws.{added_none, added_more, added-early, added-all}
use borrow.Author.Rules.{rules}
use native.Mathlib.Omega.{arith}
use Rattle.counters.proofs.add.Goals as goal

pub loop-k-init : goal.loop-k-init
loop-k-init c = (search rules, added_none _ _)

pub returns-then-carry-eq0 : goal.returns-then-carry-eq0
returns-then-carry-eq0 c =
    let h = c.loop-k in
    (search rules, λ j l. added-early h.invariant.1 c.if-carry-eq0.true j)

pub loop-k-preserved : goal.loop-k-preserved
loop-k-preserved c =
    let h = c.loop-k in
    (search rules, added_more h.invariant.1 (omega arith))

pub returns : goal.returns
returns c =
    let h = c.loop-k in
    let k-is : h.k ≡ counter_planes = omega arith in
    (search rules, λ j l. added-all (rw k-is at h.invariant.1) j (omega (arith, c.requires j l)))
