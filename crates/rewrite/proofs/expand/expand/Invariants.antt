-- `rewrite::expand::expand` meets its contract. The invariant: the cursor stands behind the rows that were put.
-- Assumes nothing.
use Prim.Native.Nat.{◌+◌}
use mathlib.Core.Path.{◌≡◌}
use Rattle.meaning.specs.declared.Format.TheVariants.{Wah}
use Rattle.meaning.specs.Format.{rows_of}
use Rattle.repack.specs.Filling.{rows_done, Ready, Laid}
use Rattle.row_write.proofs.Walking.{At}
use Rattle.rewrite.proofs.expand.expand.Given as goal

abbrev pub invariant-loop-left : goal.invariant-loop-left
invariant-loop-left l = At Wah l.rows l.body l.c l.left × (rows_done l.s + l.left ≡ l.rows) × Ready l.s × Laid (rows_of Wah l.body) l.initial.out l.out l.s

abbrev pub decreases-loop-left : goal.decreases-loop-left
decreases-loop-left l = l.left
