-- `pivots::count::count` meets its contract, by `run-counted` and `block-counted`.
-- Assumes nothing.
use mathlib.Core.Path.{◌≡◌, sym, ap, ap₂, ◌∙◌}
use Prim.Native.Nat.{ℕ, ◌+◌, ◌-◌, ◌*◌, ◌^◌, ◌≤◌, ◌<◌, min}
use lib.Bits.{bit_and}
use lib.ListN.{length, get_or}
use native.Mathlib.Omega.{arith}
use borrow.Author.Rules.{rules}
use Rattle.meaning.specs.Limits.{block_segments}
use Rattle.meaning.specs.Rows.{count_below}
use Rattle.meaning.specs.Segment.{is_set}
use Rattle.meaning.specs.Format.{width}
use Rattle.laws.proofs.Counting.{count-le}
use Rattle.pivots.proofs.Counting.{run_fits, run-counted, block-counted}
use Rattle.pivots.proofs.count.count.Lts
use Rattle.pivots.proofs.count.count.Reads
use Rattle.pivots.proofs.count.count.Tie
use Rattle.pivots.proofs.count.count.Goals as goal

-- places in the code that lemmas below speak of
abbrev After-count : Type 0
After-count = Lts.After-count Tie.the-claims Reads.Pre Reads.Post

abbrev Else-even : Type 0
Else-even = Lts.Else1 Tie.the-claims Reads.Pre Reads.Post

-- what all but the last have
run-less : (c : After-count) → (c.args.n - 1) * c.count.result < 2 ^ 31
run-less c =
    run_fits c.args.n c.count.result c.requires.1
    (omega (arith, count-le 32 (is_set (get_or c.args.words 0 0))))

pub overflow_mul-result : goal.overflow_mul-result
overflow_mul-result c = omega (arith, run-less c)

pub overflow_add-result : goal.overflow_add-result
overflow_add-result c =
    let s = c.args in
    omega (arith, run-less c.before, count-le 32 (is_set (bit_and (get_or s.words 0 0) s.mask)))

pub returns-then-even : goal.returns-then-even
returns-then-even c F R o p g l h =
    run-counted h R c.args.mask c.requires.0 c.if-even.true g l
    ∙ ap₂ (λ (i j : ℕ). count_below (min (o * width F) R) p + ((c.args.n - 1) * i + j))
    (sym c.count.ensures) (sym c.count-then-even.ensures)

-- ---- other segments
-- they are no more than there are words
within : (c : Else-even) → c.args.n ≤ length c.args.words
within c = let long : length c.args.words ≡ block_segments = search rules in omega (arith, c.requires.2 c.if-even.false)

pub returns : goal.returns
returns c F R o p g l h =
    block-counted h R c.args.mask c.requires.0 (within c.before.before) c.if-even.false g l
    ∙ ap (λ (i : ℕ). count_below (min (o * width F) R) p + i) (sym c.count_each.ensures)
