-- `merge::evaluate::word` meets its contract: a number is decided by `base` alone, or the counters are compared with
-- it less `base`; the table is `by_table`'s.
-- Assumes nothing.
use mathlib.Core.Path.{sym, ◌∙◌}
use Prim.Native.Nat.{◌+◌, ◌-◌}
use native.Mathlib.Omega.{arith}
use borrow.Author.Tests.{le-leb, ne_eqb}
use Rattle.laws.proofs.Counting.{zero_clear, full-set}
use Rattle.counters.specs.Counters.{count_at}
use Rattle.words.proofs.Tests.{same-leb, eqb-more}
use Rattle.merge.specs.Operations.{chosen}
use Rattle.merge.proofs.evaluate.word.Goals as goal

pub returns-then-t-base : goal.returns-then-t-base
unfolding chosen
returns-then-t-base c j l =
    let a = c.args in
    rw c.in-AtLeast.is (full-set 32 j l ∙ sym (le-leb c.in-AtLeast.t (a.base + count_at a.planes j) (omega arith)))

pub returns-then-t-base-2 : goal.returns-then-t-base-2
unfolding chosen
returns-then-t-base-2 c j l =
    let a = c.args in
    rw c.in-Exactly.is (zero_clear j ∙ sym (ne_eqb (a.base + count_at a.planes j) c.in-Exactly.t (omega arith)))

pub returns-else-t-base : goal.returns-else-t-base
unfolding chosen
returns-else-t-base c j l =
    let a = c.args in
    let t = c.in-AtLeast.t in
    let n = count_at a.planes j in
    rw c.in-AtLeast.is (c.at_least.ensures j l ∙ same-leb (t - a.base) n t (a.base + n) (omega arith) (omega arith))

pub returns-else-t-base-2 : goal.returns-else-t-base-2
unfolding chosen
returns-else-t-base-2 c j l =
    let a = c.args in
    rw c.in-Exactly.is (c.equals.ensures j l ∙ eqb-more a.base (count_at a.planes j) c.in-Exactly.t (omega arith))

pub returns-in-Table : goal.returns-in-Table
unfolding chosen
returns-in-Table c j l = rw c.in-Table.is (c.by_table.ensures j l)
