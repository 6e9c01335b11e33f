-- `wah_read::count::count_word` meets its contract: by `fill-ones` the segments of a fill have all their bits set or none, and by
-- `literal-ones` bit 31 of a literal counts for nothing.
-- Assumes nothing.
use native.Mathlib.Omega.{arith}
use native.Mathlib.Nat.{mul-le-mul}
use Prim.Native.Nat.{◌*◌, ◌≤◌}
use mathlib.Core.Path.{sym, ◌∙◌}
use Rattle.meaning.specs.Limits.{most_segments}
use Rattle.wah.proofs.Spelled.{fill-size}
use Rattle.wah_read.proofs.WordBits.{fill-ones, literal-ones}
use Rattle.wah_read.proofs.count.count_word.Goals as goal

pub overflow_mul-result-then-is_fill : goal.overflow_mul-result-then-is_fill
overflow_mul-result-then-is_fill c =
    let x = c.args.x in
    let f = c.read-fill.ensures in
    let few : c.read-fill.result.count ≤ most_segments =
    omega (arith, f.count-is, fill-size x (sym c.is_fill.ensures ∙ c.if-is_fill.true), c.requires) in
    let low : c.read-fill.result.value * 31 ≤ 31 = omega (arith, f.value_low) in
    omega (arith, mul-le-mul few low)

pub returns-then-is_fill : goal.returns-then-is_fill
returns-then-is_fill c =
    let f = c.read-fill.ensures in
    fill-ones c.args.x c.read-fill.result.value c.read-fill.result.count
    (sym c.is_fill.ensures ∙ c.if-is_fill.true) f.value-is f.count-is f.value_low

pub returns : goal.returns
returns c =
    c.count.ensures ∙ literal-ones c.args.x (sym c.is_fill.ensures ∙ c.if-is_fill.false)
