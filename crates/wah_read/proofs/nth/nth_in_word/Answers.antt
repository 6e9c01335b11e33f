-- `wah_read::nth::nth_in_word` meets its contract: a fill with a set bit is of ones, so the bit is k itself; a literal's is found in its
-- word, by `literal-nth`.
-- Assumes nothing.
use native.Mathlib.Omega.{arith}
use Prim.Native.Nat.{◌<◌}
use mathlib.Core.Path.{refl, sym, ◌∙◌}
use Rattle.meaning.specs.Rows.{count_below}
use Rattle.meaning.specs.Segment.{is_set}
use Rattle.laws.specs.Demands.{IsNth}
use Rattle.meaning.specs.Wah.{fill_value, fill_count}
use Rattle.laws.proofs.Counted.{nth-holds}
use Rattle.wah_read.proofs.WordBits.{fill-nth, literal-ones, literal-nth}
use Rattle.wah_read.proofs.nth.nth_in_word.Goals as goal

pub returns-then-is_fill : goal.returns-then-is_fill
unfolding fill_value
returns-then-is_fill c =
    let x = c.args.x in
    let is = sym c.is_fill.ensures ∙ c.if-is_fill.true in
    fill-nth x (fill_value x) (fill_count x) is refl refl c.args.k (omega arith) c.requires

pub nth-requires : goal.nth-requires
nth-requires c =
    omega (arith, c.requires, literal-ones c.args.x (sym c.is_fill.ensures ∙ c.if-is_fill.false))

pub returns-else-is_fill : goal.returns-else-is_fill
returns-else-is_fill c =
    let x = c.args.x in
    let k = c.args.k in
    let is = sym c.is_fill.ensures ∙ c.if-is_fill.false in
    let low : k < count_below 32 (is_set x) = omega (arith, c.requires, literal-ones x is) in
    let j : IsNth 32 (is_set x) k c.nth.result = rw c.nth.ensures.0 (nth-holds 32 (is_set x) k low).is in
    literal-nth x is k c.nth.result j
