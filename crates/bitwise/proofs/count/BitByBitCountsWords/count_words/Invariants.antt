-- `bitwise::count::BitByBit`'s `count_words` meets its contract, by `ones-next`. The invariant: n bits of the words so far are set.
-- Assumes nothing.
use mathlib.Core.Path.{◌≡◌}
use lib.ListN.{take}
use Rattle.meaning.specs.Segment.{ones}
use Rattle.bitwise.proofs.count.BitByBitCountsWords.count_words.Given as goal

abbrev pub invariant-loop-x : goal.invariant-loop-x
invariant-loop-x l = l.n ≡ ones 32 (take l.x-index l.ws)
