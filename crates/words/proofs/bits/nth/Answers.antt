-- `words::bits::nth` meets its contract. The invariant: as many set bits lie below j as were passed, and these are at most n.
-- Assumes nothing.
use mathlib.Core.Path.{◌≡◌, sym, ◌∙◌}
use mathlib.Core.Bool.{true}
use native.Mathlib.Omega.{arith}
use Rattle.meaning.specs.Rows.{count_below}
use Rattle.meaning.specs.Segment.{is_set}
use Rattle.laws.proofs.Counted.{nth-holds}
use Rattle.words.proofs.BitLaws.{count_set, count-unset}
use Rattle.words.proofs.bits.nth.Goals as goal
use Rattle.words.proofs.bits.nth.Goals.{then-has+else-passed-n, else-has}

pub loop-j-init : goal.loop-j-init
unfolding count_below
loop-j-init c = omega arith

pub returns-then-passed-n : goal.returns-then-passed-n
returns-then-passed-n c =
    let s = c.before.before.before.before in
    let x = s.args.x in
    let j = s.loop-j.j in
    let is-set : is_set x j ≡ true = sym c.has.ensures ∙ c.if-has.true in
    ((nth-holds 32 (is_set x) s.args.n s.requires).only j (record { below = omega arith; set = is-set; before = omega arith }), omega arith)

pub loop-j-preserved : goal.loop-j-preserved
loop-j-preserved c =
    let x = c.args.x in
    let j = c.loop-j.j in
    let has-is = c.has.ensures in
    elim c.if-has.branch [
      | then-has+else-passed-n w ↦ omega (arith, count_set (is_set x) j (sym has-is ∙ w.if-has.true))
      | else-has w ↦ omega (arith, count-unset (is_set x) j (sym has-is ∙ w.if-has.false))
    ]
