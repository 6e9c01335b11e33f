-- `popcount::vector::set_bits` meets its contract, by `first-all`. The invariant: n bits of the first w words are set.
-- Assumes nothing.
use mathlib.Core.Path.{◌≡◌, ◌∙◌}
use Prim.Native.Nat.{◌+◌}
use Rattle.meaning.specs.Rows.{sum_below}
use Rattle.popcount.specs.Counts.{lanes}
use Rattle.popcount.proofs.Counted.{set_first, first_next, first-le, first-all}
use borrow.Author.Rules.{rules}
use native.Mathlib.Omega.{arith}
use Rattle.popcount.proofs.vector.set_bits.Goals as goal

pub loop-w-init : goal.loop-w-init
unfolding sum_below
loop-w-init c = search rules

pub overflow_add-n : goal.overflow_add-n
overflow_add-n c =
    let h = c.loop-w in
    let a = c.args.a in
    omega (arith, first_next a h.w, c.count-n.ensures, first-le a (h.w + 1))

pub loop-w-preserved : goal.loop-w-preserved
loop-w-preserved c =
    let h = c.loop-w in
    omega (arith, first_next c.args.a h.w, c.count-n.ensures)

pub returns : goal.returns
returns c =
    let h = c.loop-w in
    let a = c.args.a in
    let w-is : h.w ≡ lanes = omega arith in
    let e : h.n ≡ set_first a lanes = rw w-is at h.invariant.1 in
    (e ∙ first-all a, omega (arith, first-le a lanes))
