-- `pairs::spell::spell_each` meets its contract. The invariant: word w of the first i rows is spelled.
-- Assumes nothing.
use mathlib.Core.Path.{◌≡◌}
use Rattle.meaning.specs.Segment.{all_set}
use Rattle.meaning.specs.Format.{width}
use Rattle.meaning.specs.declared.Format.{Format}
use Rattle.pairs.specs.Spellings.{WordsSpelled}
use Rattle.pairs.proofs.spell.spell_each.Given as goal

abbrev pub invariant-loop-i : goal.invariant-loop-i
invariant-loop-i l = (F : Format) → l.full ≡ all_set (width F) → WordsSpelled F l.initial.z l.i l.w l.mask l.z
