-- `bitmaps::nth` meets its contract: `single::body::nth` of the bitmap's body. Assumes nothing.
use Prim.Native.Nat.{ℕ}
use mathlib.Core.Path.{◌∙◌}
use Rattle.meaning.specs.Refusal.{Outcome}
use Rattle.meaning.specs.Answer.{ask_nth}
use Rattle.bitmaps.proofs.Numbers.{rows_as, facts-as, asked-as}
use Rattle.bitmaps.proofs.nth.Goals as goal

pub format-requires : goal.format-requires
format-requires c = c.requires.index_facts.head.head

pub body-requires : goal.body-requires
body-requires c =
    record {
      head_facts = c.requires.index_facts.head;
      entry_facts = c.requires.index_facts.entries;
      k_bound = c.requires.k_bound;
    }

pub rows-requires : goal.rows-requires
rows-requires c = c.requires.index_facts.head.head

pub nth-requires : goal.nth-requires
nth-requires c =
    record {
      rows_le_most_rows = rows_as c.args.index.now c.args.k c.requires.index_facts c.requires.k_bound _ c.rows.ensures;
      sound_facts = facts-as c.args.index.now c.args.k c.requires.index_facts c.requires.k_bound _ _ _ c.format.ensures c.rows.ensures c.body.ensures.result_value;
    }

pub returns : goal.returns
returns c =
    c.nth.ensures
    ∙ asked-as c.args.index.now c.args.k c.requires.index_facts c.requires.k_bound (Outcome ℕ) (λ R p. ask_nth R p c.args.n) _ _ _
    c.format.ensures c.rows.ensures c.body.ensures.result_value
