-- `ewah_nth::nth::seek_words` meets its contract: by `nth-part`, the bit found in a part is the one asked for of the words.
-- The invariant: with the bits of the first i words passed, so many set bits are still ahead.
-- Assumes nothing.
use borrow.Author.Rules.{rules}
use native.Mathlib.Omega.{arith}
use Prim.Native.Nat.{◌+◌, ◌-◌, ◌*◌}
use lib.Dec.{lit<}
use lib.ListN.{length}
use Rattle.meaning.specs.Segment.{ones, has_row}
use Rattle.laws.specs.Demands.{IsNth}
use Rattle.laws.proofs.Counting.{ones-part, nth-part}
use Rattle.ewah_nth.proofs.nth.seek_words.Lts
use Rattle.ewah_nth.proofs.nth.seek_words.Reads
use Rattle.ewah_nth.proofs.nth.seek_words.Tie
use Rattle.ewah_nth.proofs.nth.seek_words.Goals as goal

-- places in the code that lemmas below speak of
abbrev After-find : Type 0
After-find = Lts.After-find Tie.the-claims Reads.Pre Reads.Post goal.the-invariant-loop-i goal.the-decreases-loop-i

pub loop-i-init : goal.loop-i-init
unfolding ones
loop-i-init c = search rules

-- the bit that the part has, as one of the words
found : (c : After-find)
    →
    let ws = c.args.ws.now in
    IsNth (length ws * 32) (has_row 32 ws) c.args.k (c.loop-i.i * 32 + c.find.result)
found c =
    let ws = c.args.ws.now in
    let i = c.loop-i.i in
    let n = c.min-end.result - i in
    rw c.loop-i.invariant.1
    at (nth-part 32 (lit< tt) ws i n c.loop-i.ahead c.find.result c.loop-i.invariant.0 c.find.ensures)

pub returns-then-ahead-inside : goal.returns-then-ahead-inside
returns-then-ahead-inside c = found c.before

pub loop-i-preserved : goal.loop-i-preserved
loop-i-preserved c =
    let ws = c.args.ws.now in
    let more = ones-part 32 ws c.loop-i.i c.min-end.result (omega arith) in
    ((omega (arith, c.min-end.ensures)), omega (arith, c.loop-i.invariant.1, c.count-inside.ensures, more))
