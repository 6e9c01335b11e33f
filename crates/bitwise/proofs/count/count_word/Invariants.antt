-- `bitwise::count::count_word` meets its contract. The invariant: n bits below j are set; by `count_set` and
-- `count-unset` bit j is one more, or none.
-- Assumes nothing.
use mathlib.Core.Path.{◌≡◌}
use Prim.Native.Nat.{◌-◌, ◌≤◌}
use Rattle.meaning.specs.Rows.{count_below}
use Rattle.meaning.specs.Segment.{is_set}
use Rattle.bitwise.proofs.count.count_word.Given as goal

abbrev pub invariant-loop-j : goal.invariant-loop-j
invariant-loop-j l = l.n ≡ count_below l.j (is_set l.x)
