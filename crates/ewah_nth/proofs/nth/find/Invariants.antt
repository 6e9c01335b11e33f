-- `ewah_nth::nth::find` meets its contract. The invariant: with the bits of the first i words passed, so many set bits are still ahead.
-- Assumes nothing.
use Prim.Native.Nat.{◌+◌}
use mathlib.Core.Path.{◌≡◌}
use lib.ListN.{take}
use Rattle.meaning.specs.Segment.{ones}
use Rattle.ewah_nth.proofs.nth.find.Given as goal

abbrev pub invariant-loop-i : goal.invariant-loop-i
invariant-loop-i l = ones 32 (take l.i l.ws) + l.ahead ≡ l.k
