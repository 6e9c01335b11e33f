-- `archive::write` meets its contract: behind the head each round adds a body and its entry, and after the last one the
-- buffer has the whole index.
-- Assumes nothing.
use Prim.Native.Nat.{ℕ}
use mathlib.Core.Path.{◌≡◌}
use mathlib.Core.List.{List}
use Rattle.meaning.specs.Index.{body_place}
use Rattle.archive.specs.Anew.{anew, Begun}
use Rattle.archive.proofs.write.Given as goal

abbrev pub invariant-loop-k : goal.invariant-loop-k
invariant-loop-k l =
    (l.at ≡ body_place (anew l.index l.to) l.k)
    × ((old : List ℕ) → Begun (anew l.index l.to) old l.initial.out 0 → Begun (anew l.index l.to) old l.out l.k)
