-- `new_index::writers::emit_all` meets its contract: by `going_more`, each round puts one row more to its body's part.
-- Assumes nothing.
use lib.ListN.{length}
use Rattle.new_index.specs.Writers.{row_of}
use Rattle.new_index.proofs.Regions.{Going}
use Rattle.new_index.proofs.writers.emit_all.Given as goal

abbrev pub invariant-loop-i : goal.invariant-loop-i
invariant-loop-i l =
    Going l.format l.mask l.starts l.initial.out l.initial.writers (length l.initial.writers) (row_of l.format l.rows l.n l.even) l.store l.out l.writers l.i
