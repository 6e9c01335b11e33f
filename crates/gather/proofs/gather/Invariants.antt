-- `gather::gather` meets its contract. The invariant: the first k places are gathered.
-- Assumes nothing.
use Rattle.gather.proofs.Gathering.{Gathering}
use Rattle.gather.proofs.gather.Given as goal

abbrev pub invariant-loop-k : goal.invariant-loop-k
invariant-loop-k l = Gathering l.format l.index l.list l.initial.cursors l.n l.even l.initial.x l.k l.cursors l.x
