-- `index::check::check_bodies` meets its contract. The loop's invariant: the first fault of the bodies from k on is that of all bodies. Assumes nothing.
use mathlib.Core.Path.{◌≡◌}
use Prim.Native.Nat.{◌-◌}
use Rattle.meaning.specs.Index.{bitmap_count, bodies_fault}
use Rattle.index.proofs.check.check_bodies.Given as goal

abbrev pub invariant-loop-k : goal.invariant-loop-k
invariant-loop-k l = bodies_fault l.index l.k (l.bitmaps - l.k) ≡ bodies_fault l.index 0 (bitmap_count l.index)
