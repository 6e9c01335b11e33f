-- `ranks::pivot::find` meets its contract. The invariant: the digits from place `left` on are found.
-- Assumes nothing.
use mathlib.Core.Path.{refl}
use native.Mathlib.Omega.{arith}
use Rattle.ranks.proofs.Narrowing.{finding-none, finding-low, finding-more, finding-all}
use Rattle.ranks.proofs.pivot.find.Goals as goal

pub loop-left-init : goal.loop-left-init
loop-left-init c =
    finding-none c.args.op c.args.k c.lead-first.result c.requires.column c.lead-first.ensures c.requires.k_bound

pub count_top-c-requires-clause-le_from : goal.count_top-c-requires-clause-le_from
count_top-c-requires-clause-le_from c =
    let g = c.loop-left.invariant in
    (omega arith, omega arith, finding-low g _ _ (omega arith) g.digit refl)

pub loop-left-preserved : goal.loop-left-preserved
loop-left-preserved c = finding-more c.loop-left.invariant (omega arith) c.count_top-c.ensures c.narrowed-q.ensures

pub returns : goal.returns
returns c = finding-all c.loop-left.invariant c.args.op (omega arith) c.lead-first.ensures
