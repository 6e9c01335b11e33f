-- `ewah_nth::nth::seek_words` meets its contract: by `nth-part`, the bit found in a part is the one asked for of the words.
-- The invariant: with the bits of the first i words passed, so many set bits are still ahead.
-- Assumes nothing.
use Prim.Native.Nat.{◌+◌, ◌-◌, ◌≤◌}
use mathlib.Core.Path.{◌≡◌}
use lib.ListN.{length, take}
use Rattle.meaning.specs.Segment.{ones}
use Rattle.ewah_nth.proofs.nth.seek_words.Given as goal

abbrev pub invariant-loop-i : goal.invariant-loop-i
invariant-loop-i l = (l.i ≤ length l.ws) × (ones 32 (take l.i l.ws) + l.ahead ≡ l.k)

abbrev pub decreases-loop-i : goal.decreases-loop-i
decreases-loop-i l = length l.ws - l.i
