-- `bitmaps::count` meets its contract: `body_read::count::count` of the bitmap's body. Assumes nothing.
use Prim.Native.Nat.{ℕ}
use mathlib.Core.Path.{◌∙◌}
use Rattle.meaning.specs.Rows.{count_below}
use Rattle.bitmaps.proofs.Numbers.{rows_as, facts-as, asked-as}
use Rattle.bitmaps.proofs.count.Goals as goal

pub format-requires : goal.format-requires
format-requires c = c.requires.index_facts.head.head

pub body-requires : goal.body-requires
body-requires c =
    record {
      head_facts = c.requires.index_facts.head;
      entry_facts = c.requires.index_facts.entries;
      k_bound = c.requires.k_bound;
    }

pub rows-requires : goal.rows-requires
rows-requires c = c.requires.index_facts.head.head

pub count-requires : goal.count-requires
count-requires c =
    (rows_as c.args.index.now c.args.k c.requires.index_facts c.requires.k_bound _ c.rows.ensures, facts-as c.args.index.now c.args.k c.requires.index_facts c.requires.k_bound _ _ _ c.format.ensures c.rows.ensures c.body.ensures.result_value)

pub returns : goal.returns
returns c =
    c.count.ensures
    ∙ asked-as c.args.index.now c.args.k c.requires.index_facts c.requires.k_bound (ℕ) (count_below) _ _ _
    c.format.ensures c.rows.ensures c.body.ensures.result_value
