-- `pairs::pass::pass` meets its contract: block by block, by `Passing`.
-- Assumes nothing.
use Prim.Native.Nat.{◌-◌}
use mathlib.Core.Path.{◌≡◌}
use lib.ListN.{length}
use Rattle.meaning.specs.Limits.{block_words}
use Rattle.blocks.specs.Blocks.{Cleared}
use Rattle.pairs.proofs.Passing.{Passing}
use Rattle.pairs.proofs.pass.pass.Given as goal

abbrev pub invariant-loop-o : goal.invariant-loop-o
invariant-loop-o l =
    Passing l.op l.index l.first l.second l.n l.starts l.initial.out l.store l.out l.p l.q l.ws l.o
    × (length l.z ≡ block_words) × Cleared l.first l.x × Cleared l.second l.y
    × (length l.p ≡ length l.first) × (length l.q ≡ length l.second)

abbrev pub decreases-loop-o : goal.decreases-loop-o
decreases-loop-o l = l.f.segments - l.o
