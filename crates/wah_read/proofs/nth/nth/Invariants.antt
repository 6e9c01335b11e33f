-- `wah_read::nth::nth` meets its contract. The invariant: so many segments are behind, and with their set bits passed so many set
-- bits are still ahead.
-- Assumes nothing.
use Prim.Native.Nat.{◌+◌}
use mathlib.Core.Path.{◌≡◌}
use Rattle.wah_read.proofs.Passing.{segments_behind, ones_behind}
use Rattle.wah_read.proofs.nth.nth.Given as goal

abbrev pub invariant-loop-x : goal.invariant-loop-x
invariant-loop-x l = (l.behind ≡ segments_behind l.body l.x-index) × (ones_behind l.body l.x-index + l.ahead ≡ l.n)
