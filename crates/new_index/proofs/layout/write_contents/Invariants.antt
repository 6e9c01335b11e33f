-- `new_index::layout::write_contents` meets its contract: by `headed-more`, each round puts one entry more behind the head.
-- Assumes nothing.
use Rattle.new_index.specs.Layouts.{Headed}
use Rattle.new_index.proofs.layout.write_contents.Given as goal

abbrev pub invariant-loop-i : goal.invariant-loop-i
invariant-loop-i l = Headed l.fn.format l.fn.out l.rows l.starts l.count l.out l.i
