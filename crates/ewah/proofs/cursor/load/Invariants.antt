-- `ewah::cursor::load` meets its contract. The loop's invariant: the pieces from the marker at word `at` on are those that
-- were asked for.
-- Assumes nothing.
use mathlib.Core.Path.{◌≡◌}
use lib.ListN.{drop}
use Rattle.meaning.specs.Ewah.{pieces}
use Rattle.ewah.proofs.cursor.load.Given as goal

abbrev pub invariant-loop-at : goal.invariant-loop-at
invariant-loop-at l = pieces 0 (drop l.at l.body) ≡ pieces 0 (drop l.next l.body)
