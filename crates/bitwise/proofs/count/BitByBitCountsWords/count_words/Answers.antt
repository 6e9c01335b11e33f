-- `bitwise::count::BitByBit`'s `count_words` meets its contract, by `ones-next`. The invariant: n bits of the first i words are set.
-- Assumes nothing.
use borrow.Author.Rules.{rules}
use native.Mathlib.Omega.{arith}
use Prim.Native.Nat.{ℕ, ◌+◌}
use mathlib.Core.Path.{◌≡◌, ap, ◌∙◌}
use lib.ListN.{length, take}
use lib.Seq.{take-length, length-take-le}
use Rattle.meaning.specs.Segment.{ones}
use Rattle.laws.proofs.Counting.{ones-next, ones-le}
use Rattle.bitwise.proofs.count.BitByBitCountsWords.count_words.Goals as goal

pub loop-x-init : goal.loop-x-init
unfolding ones
loop-x-init c = search rules

pub overflow_add-n : goal.overflow_add-n
overflow_add-n c =
    let ws = c.args.ws.now in
    let i = c.loop-x.x-index in
    let few = length-take-le (i + 1) ws (omega arith) in
    omega (arith, ones-next 32 ws i, c.count_word-n.ensures, ones-le 32 (take (i + 1) ws), few)

pub loop-x-preserved : goal.loop-x-preserved
loop-x-preserved c =
    let ws = c.args.ws.now in
    omega (arith, ones-next 32 ws c.loop-x.x-index, c.count_word-n.ensures)

pub returns : goal.returns
returns c =
    let ws = c.args.ws.now in
    let e : c.loop-x.x-index ≡ length ws = omega arith in
    c.loop-x.invariant ∙ ap (λ (i : ℕ). ones 32 (take i ws)) e ∙ ap (ones 32) (take-length ws)
