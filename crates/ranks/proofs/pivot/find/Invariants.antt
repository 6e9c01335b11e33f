-- `ranks::pivot::find` meets its contract. The invariant: the digits from place `left` on are found.
-- Assumes nothing.
use Prim.Native.Nat.{◌-◌}
use Rattle.ranks.proofs.Narrowing.{Finding}
use Rattle.ranks.proofs.pivot.find.Given as goal

abbrev pub invariant-loop-left : goal.invariant-loop-left
invariant-loop-left l = Finding l.index l.list l.k l.first l.p.value l.p.take (l.left - 1)
