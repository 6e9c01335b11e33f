-- `wah_read::count::count` meets its contract. The invariant: n bits of the segments behind are set; at the end the pad bits among
-- them are those of the last word.
-- Assumes nothing.
use mathlib.Core.Path.{◌≡◌}
use Rattle.wah_read.proofs.Passing.{ones_behind}
use Rattle.wah_read.proofs.count.count.Given as goal

abbrev pub invariant-loop-x : goal.invariant-loop-x
invariant-loop-x l = l.n ≡ ones_behind l.body l.x-index
