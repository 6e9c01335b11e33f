-- `bitmaps::row` meets its contract: `single::body::row` of the bitmap's body. Assumes nothing.
use mathlib.Core.Path.{◌∙◌}
use Rattle.meaning.specs.Refusal.{Outcome}
use Rattle.meaning.specs.Answer.{ask_row}
use Rattle.meaning.specs.declared.Row.{Row}
use Rattle.bitmaps.proofs.Numbers.{rows_as, facts-as, written_as}
use Rattle.bitmaps.proofs.row.Goals as goal

pub format-requires : goal.format-requires
format-requires c = c.requires.index_facts.head.head

pub body-requires : goal.body-requires
body-requires c =
    record {
      head_facts = c.requires.index_facts.head;
      entry_facts = c.requires.index_facts.entries;
      k_bound = c.requires.k_bound;
    }

pub rows-requires : goal.rows-requires
rows-requires c = c.requires.index_facts.head.head

pub row-requires : goal.row-requires
row-requires c =
    let f = c.requires.index_facts in record {
      rows_le_most_rows = rows_as c.args.index.now c.args.k f c.requires.k_bound _ c.rows.ensures;
      sound_facts = facts-as c.args.index.now c.args.k f c.requires.k_bound _ _ _ c.format.ensures c.rows.ensures
          c.body.ensures.result_value;
    }

pub returns : goal.returns
returns c =
    c.row.ensures
    ∙ written_as c.args.index.now c.args.k c.requires.index_facts c.requires.k_bound (Outcome Row) (λ F R b. ask_row F R b c.args.r) _ _ _
    c.format.ensures c.rows.ensures c.body.ensures.result_value
