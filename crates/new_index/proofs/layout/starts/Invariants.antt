-- `new_index::layout::starts` meets its contract: by `starting-more`, each round puts one start more.
-- Assumes nothing.
use Rattle.new_index.proofs.LaidOut.{Starting}
use Rattle.new_index.proofs.layout.starts.Given as goal

abbrev pub invariant-loop-i : goal.invariant-loop-i
invariant-loop-i l = Starting l.writers l.from l.r l.i
