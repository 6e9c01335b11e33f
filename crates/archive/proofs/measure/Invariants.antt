-- `archive::measure` meets its contract: after k rounds the words are those before body k of the new index.
-- Assumes nothing.
use mathlib.Core.Path.{◌≡◌}
use Rattle.meaning.specs.Index.{body_place}
use Rattle.archive.specs.Anew.{anew}
use Rattle.archive.proofs.measure.Given as goal

abbrev pub invariant-loop-k : goal.invariant-loop-k
invariant-loop-k l = (l.need ≡ body_place (anew l.index l.to) l.k)
