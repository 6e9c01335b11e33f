-- `ewah_nth::nth::nth` meets its contract. The invariant: the walk stands at a marker, and with the set bits of the
-- segments behind passed so many are still ahead.
-- Assumes nothing.
use Prim.Native.Nat.{◌+◌}
use mathlib.Core.Path.{◌≡◌}
use lib.ListN.{take}
use Rattle.meaning.specs.Segment.{ones}
use Rattle.meaning.specs.Ewah.{segments}
use Rattle.ewah.proofs.Taking.{Left}
use Rattle.ewah_nth.proofs.nth.nth.Given as goal

abbrev pub invariant-loop-m : goal.invariant-loop-m
invariant-loop-m l = Left l.body l.m-iterator.rest.now l.behind × (ones 32 (take l.behind (segments l.body)) + l.ahead ≡ l.n)
