-- `ranks::pass::pass` meets its contract. The invariant: the cursors stand at segment o, and the body's first o segments are put.
-- Assumes nothing.
use Prim.Native.Nat.{◌-◌}
use mathlib.Core.Path.{◌≡◌}
use lib.ListN.{length}
use Rattle.meaning.specs.Index.{format_of, row_count}
use Rattle.body_write.specs.Bodies.{UpTo}
use Rattle.ranks.proofs.Along.{Along}
use Rattle.ranks.proofs.Passing.{own_segments}
use Rattle.ranks.proofs.pass.pass.Given as goal

abbrev pub invariant-loop-o : goal.invariant-loop-o
invariant-loop-o l =
    Along l.index l.list l.cursors l.x l.o
    × UpTo (format_of l.index) (row_count l.index) (own_segments l.op l.index l.list l.value l.cut) l.store l.initial.out l.out l.w l.o
    × (length l.out ≡ length l.initial.out)
    × (length l.cursors ≡ length l.list)

abbrev pub decreases-loop-o : goal.decreases-loop-o
decreases-loop-o l = l.f.segments - l.o
