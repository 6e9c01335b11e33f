-- `columns::rank::existing` meets its contract: the rows of the first bitmap that is named.
-- Assumes nothing.
use mathlib.Core.Path.{◌∙◌}
use lib.ListN.{get_or}
use Rattle.meaning.specs.Index.{rows_at}
use Rattle.columns.proofs.Asking.{good-column, existing-first}
use native.Mathlib.Omega.{arith}
use Rattle.columns.proofs.rank.existing.Goals as goal

pub bounds-list-0 : goal.bounds-list-0
bounds-list-0 c = omega (arith, (good-column _ _ _ c.requires.list_value).0)

pub body-requires : goal.body-requires
body-requires c =
    let g = good-column _ _ _ c.requires.list_value in record {
      head_facts = c.requires.index_facts.head;
      entry_facts = c.requires.index_facts.entries;
      k_bound = g.2 0 (omega (arith, g.0));
    }

pub count-requires : goal.count-requires
count-requires c =
    let g = good-column _ _ _ c.requires.list_value in
    rw (c.body.ensures.result_value, c.format.ensures, c.rows.ensures)
    (c.requires.index_facts.head.few-rows, c.requires.index_facts.bodies (get_or c.args.list.now 0 0) (g.2 0 (omega (arith, g.0))))

pub returns : goal.returns
unfolding rows_at
returns c =
    let g = good-column _ _ _ c.requires.list_value in
    c.count.ensures
    ∙ rw (c.body.ensures.result_value, c.format.ensures, c.rows.ensures, existing-first c.args.index.now c.args.list.now (omega (arith, g.0)))
