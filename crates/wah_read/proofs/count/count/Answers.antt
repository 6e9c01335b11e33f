-- `wah_read::count::count` meets its contract. The invariant: n bits of the segments behind are set; at the end the pad bits among
-- them are those of the last word.
-- Assumes nothing.
use Prim.Native.Nat.{◌+◌}
use mathlib.Core.Path.{◌≡◌, sym}
use Rattle.wah_read.proofs.Passing.{ones_behind, none-behind, ones-next, ones-behind, all-behind}
use Rattle.wah_read.proofs.Passing.{segments-few, word-few, rows-counted}
use native.Mathlib.Omega.{arith}
use Rattle.wah_read.proofs.count.count.Goals as goal

pub loop-x-init : goal.loop-x-init
loop-x-init c = sym (none-behind c.args.body.now).1

pub count_word-n-requires : goal.count_word-n-requires
count_word-n-requires c =
    word-few c.args.rows c.args.body.now c.requires.0 c.requires.1 c.loop-x.x-index c.loop-x-test.true

-- the bits counted are no more than all bits
pub overflow_add-n : goal.overflow_add-n
overflow_add-n c =
    let b = c.args.body.now in
    let i = c.loop-x.x-index in
    omega (
      arith,
      c.loop-x.invariant,
      c.count_word-n.ensures,
      ones-next b i c.loop-x-test.true,
      ones-behind b (i + 1),
      segments-few c.args.rows b c.requires.0 c.requires.1,
    )

pub loop-x-preserved : goal.loop-x-preserved
loop-x-preserved c =
    let b = c.args.body.now in
    let i = c.loop-x.x-index in
    let counted : c.loop-x.n + c.count_word-n.result ≡ ones_behind b (i + 1) =
    omega (arith, c.loop-x.invariant, c.count_word-n.ensures, ones-next b i c.loop-x-test.true) in
    counted

-- all rows, and the pad bits
pub overflow_sub-result : goal.overflow_sub-result
overflow_sub-result c =
    let b = c.args.body.now in
    omega (
      arith,
      c.loop-x.invariant,
      all-behind b c.loop-x.x-index c.loop-x-test.false,
      rows-counted c.args.rows b c.requires.0 c.requires.1,
      c.pads_set.ensures,
    )

pub returns : goal.returns
returns c =
    let b = c.args.body.now in
    omega (
      arith,
      c.loop-x.invariant,
      all-behind b c.loop-x.x-index c.loop-x-test.false,
      rows-counted c.args.rows b c.requires.0 c.requires.1,
      c.pads_set.ensures,
    )
