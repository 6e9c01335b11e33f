-- `pairs::spell::spell` meets its contract: each way is a law of `Spelling`.
-- Assumes nothing.
use mathlib.Core.Path.{refl, sym, ◌∙◌}
use Rattle.pairs.proofs.Spelling.{spelled-run, spelled_same, spelled-last}
use Rattle.pairs.proofs.spell.spell.Goals as goal
use Rattle.pairs.proofs.spell.spell.Goals.{then-s-via-then-s, then-s-via-else-s+then-mask-full}

pub returns-then-s : goal.returns-then-s
returns-then-s c =
    λ F R o f l m.
    elim c.then-s.branch [
      | then-s-via-then-s w ↦ spelled-run F R o _ _ _ _ w.if-s.true
      | then-s-via-else-s+then-mask-full w ↦ spelled_same F R o _ l _ _ _ (sym m ∙ w.if-mask-full.true ∙ f)
    ]

pub returns : goal.returns
returns c =
    λ F R o f l m.
    let block = c.if-s.false in
    spelled-last F R o _ l _ _ _ _ _ _ block c.requires.0 (c.requires.3 block) refl m (c.spell_each.ensures F f)
