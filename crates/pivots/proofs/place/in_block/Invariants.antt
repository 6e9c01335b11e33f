-- `pivots::place::in_block` meets its contract, by `block-reached` and `block-passed`. The invariant: of `take` rows the
-- first i segments have all but those left.
-- Assumes nothing.
use mathlib.Core.Bool.{false}
use mathlib.Core.Path.{◌≡◌}
use Prim.Native.Nat.{◌+◌}
use Rattle.meaning.specs.Rows.{sum_below}
use Rattle.pivots.proofs.Counting.{set_word}
use Rattle.pivots.proofs.place.in_block.Given as goal

abbrev pub invariant-loop-i : goal.invariant-loop-i
invariant-loop-i l = l.left + sum_below l.i (set_word false l.words) ≡ l.take
