-- `bitmaps::plain` meets its contract: `plain::expand::plain` of the bitmap's body. Assumes nothing.
use Prim.Native.Nat.{ℕ}
use mathlib.Core.Path.{subst}
use mathlib.Core.List.{List}
use lib.ListN.{length}
use Rattle.meaning.specs.Refusal.{Outcome}
use Rattle.answers.specs.Told.{Wrote}
use Rattle.meaning.specs.Answer.{ask_plain}
use Rattle.bitmaps.proofs.Numbers.{rows_as, facts-as, asked-as}
use Rattle.bitmaps.proofs.plain.Goals as goal

pub format-requires : goal.format-requires
format-requires c = c.requires.index_facts.head.head

pub body-requires : goal.body-requires
body-requires c =
    record {
      head_facts = c.requires.index_facts.head;
      entry_facts = c.requires.index_facts.entries;
      k_bound = c.requires.k_bound;
    }

pub rows-requires : goal.rows-requires
rows-requires c = c.requires.index_facts.head.head

pub plain-requires : goal.plain-requires
plain-requires c =
    record {
      rows_le_most_rows = rows_as c.args.index.now c.args.k c.requires.index_facts c.requires.k_bound _ c.rows.ensures;
      sound_facts = facts-as c.args.index.now c.args.k c.requires.index_facts c.requires.k_bound _ _ _ c.format.ensures c.rows.ensures c.body.ensures.result_value;
    }

pub returns : goal.returns
returns c =
    let a = c.args in
    subst (λ (o : Outcome (List ℕ)). Wrote o c.plain.result a.out.now c.plain.new.out)
    (asked-as a.index.now a.k c.requires.index_facts c.requires.k_bound (Outcome (List ℕ)) (λ R p. ask_plain R p (length a.out.now)) _ _ _
    c.format.ensures c.rows.ensures c.body.ensures.result_value)
    c.plain.ensures
