-- `bitwise::count::count_word` meets its contract. The invariant: n bits below j are set; by `count_set` and
-- `count-unset` bit j is one more, or none.
-- Assumes nothing.
use mathlib.Core.Path.{◌≡◌, sym, ap, ◌∙◌}
use Prim.Native.Nat.{ℕ}
use native.Mathlib.Omega.{arith}
use Rattle.meaning.specs.Rows.{count_below}
use Rattle.meaning.specs.Segment.{is_set}
use Rattle.laws.proofs.Counting.{count-le}
use Rattle.words.proofs.BitLaws.{count_set, count-unset}
use Rattle.bitwise.proofs.count.count_word.Goals as goal
use Rattle.bitwise.proofs.count.count_word.Goals.{then-has, else-has}

pub loop-j-init : goal.loop-j-init
unfolding count_below
loop-j-init c = omega arith

pub overflow_add-n : goal.overflow_add-n
overflow_add-n c =
    omega (arith, count-le c.loop-j.j (is_set c.args.x))

pub loop-j-preserved : goal.loop-j-preserved
loop-j-preserved c =
    let x = c.args.x in
    let j = c.loop-j.j in
    let has-is = c.has.ensures in
    elim c.if-has.branch [
      | then-has w ↦ omega (arith, count_set (is_set x) j (sym has-is ∙ w.if-has.true))
      | else-has w ↦ omega (arith, count-unset (is_set x) j (sym has-is ∙ w.if-has.false))
    ]

pub returns : goal.returns
returns c =
    let all : c.loop-j.j ≡ 32 = omega arith in
    c.loop-j.invariant ∙ ap (λ (j : ℕ). count_below j (is_set c.args.x)) all
