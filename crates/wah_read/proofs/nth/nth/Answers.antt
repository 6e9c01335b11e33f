-- `wah_read::nth::nth` meets its contract. The invariant: so many segments are behind, and with their set bits passed so many set
-- bits are still ahead.
-- Assumes nothing.
use native.Mathlib.Omega.{arith}
use Prim.Native.Nat.{◌+◌, ◌*◌}
use mathlib.Core.Path.{sym}
use lib.ListN.{length}
use Rattle.meaning.specs.Segment.{has_row}
use Rattle.laws.specs.Demands.{IsNth}
use Rattle.meaning.specs.Wah.{wah_segments}
use Rattle.answers.specs.Told.{found_of}
use Rattle.wah_read.proofs.Passing.{none-behind, segments-behind, segments-next, ones-next, nth_here}
use Rattle.wah_read.proofs.Passing.{all-behind, segments-few, word-few, row-found, pad-found, none_found}
use Rattle.wah_read.proofs.nth.nth.Lts
use Rattle.wah_read.proofs.nth.nth.Reads
use Rattle.wah_read.proofs.nth.nth.Tie
use Rattle.wah_read.proofs.nth.nth.Goals as goal

-- places in the code that lemmas below speak of
abbrev After-nth_in_word : Type 0
After-nth_in_word = Lts.After-nth_in_word Tie.the-claims Reads.Pre Reads.Post goal.the-invariant-loop-x goal.the-decreases-loop-x

-- the bit that was found, as a row of the body
place : (c : After-nth_in_word)
    →
    let segs = wah_segments c.args.body.now in
    IsNth (length segs * 31) (has_row 31 segs) c.args.n (c.loop-x.behind * 31 + c.nth_in_word.result)
place c =
    nth_here c.args.body.now c.loop-x.x-index c.loop-x-test.true c.loop-x.behind c.args.n c.loop-x.ahead c.nth_in_word.result
    c.loop-x.invariant.0 c.loop-x.invariant.1 c.nth_in_word.ensures

pub loop-x-init : goal.loop-x-init
loop-x-init c = let z = none-behind c.args.body.now in (sym z.0, omega (arith, z.1))

pub count_word-here-requires : goal.count_word-here-requires
count_word-here-requires c =
    word-few c.args.rows c.args.body.now c.requires.0 c.requires.1 c.loop-x.x-index c.loop-x-test.true

pub overflow_mul-row : goal.overflow_mul-row
overflow_mul-row c =
    let b = c.args.body.now in
    omega (arith, c.loop-x.invariant.0, segments-few c.args.rows b c.requires.0 c.requires.1, segments-behind b c.loop-x.x-index)

pub overflow_add-row : goal.overflow_add-row
overflow_add-row c = omega (arith, (place c.before).below, segments-few c.args.rows c.args.body.now c.requires.0 c.requires.1)

pub returns-then-row-rows : goal.returns-then-row-rows
unfolding found_of
returns-then-row-rows c =
    row-found c.args.rows c.args.body.now c.requires.0 c.requires.1 c.args.n _ (place c.before.before) c.if-row-rows.true

pub returns-else-row-rows : goal.returns-else-row-rows
unfolding found_of
returns-else-row-rows c =
    pad-found c.args.rows c.args.body.now c.requires.0 c.requires.1 c.args.n _ (place c.before.before) c.if-row-rows.false

pub overflow_add-behind : goal.overflow_add-behind
overflow_add-behind c =
    let b = c.args.body.now in
    let i = c.loop-x.x-index in
    omega (
      arith,
      c.loop-x.invariant.0,
      c.size-behind.ensures,
      segments-next b i c.loop-x-test.true,
      segments-few c.args.rows b c.requires.0 c.requires.1,
      segments-behind b (i + 1),
    )

pub loop-x-preserved : goal.loop-x-preserved
loop-x-preserved c =
    let b = c.args.body.now in
    let i = c.loop-x.x-index in (
      omega (arith, c.loop-x.invariant.0, c.size-behind.ensures, segments-next b i c.loop-x-test.true),
      omega (arith, c.loop-x.invariant.1, ones-next b i c.loop-x-test.true, c.count_word-here.ensures, c.if-ahead-here.false),
    )

pub returns : goal.returns
unfolding found_of
returns c =
    let b = c.args.body.now in
    none_found c.args.rows b c.requires.0 c.requires.1 c.args.n
    (omega (arith, c.loop-x.invariant.1, all-behind b c.loop-x.x-index c.loop-x-test.false))
