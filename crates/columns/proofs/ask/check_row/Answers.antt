-- `columns::ask::check_row` meets its contract: 8, then 11.
-- Assumes nothing.
use mathlib.Core.Bool.{false}
use mathlib.Core.Path.{◌≡◌, sym, ap, ◌∙◌}
use Rattle.meaning.specs.Limits.{most_value_column}
use Rattle.column_meaning.specs.Columns.{bad_column, bad_row}
use Rattle.answers.specs.Told.{refused_by, outcome_of}
use Rattle.columns.proofs.Asking.{good-column, row-bad-list, row-bad-row, row-rest}
use Rattle.columns.proofs.ask.check_row.Lts
use Rattle.columns.proofs.ask.check_row.Reads
use Rattle.columns.proofs.ask.check_row.Tie
use Rattle.columns.proofs.ask.check_row.Goals as goal

-- places in the code that lemmas below speak of
abbrev Else-column_is_bad : Type 0
Else-column_is_bad = Lts.Else1 Tie.the-claims Reads.Pre Reads.Post Tie.handed_clauses

abbrev Else-row_is_bad : Type 0
Else-row_is_bad = Lts.Else2 Tie.the-claims Reads.Pre Reads.Post Tie.handed_clauses

-- behind the two tests
good-list : (e : Else-column_is_bad)
    → let a = e.args in
    bad_column a.index.now most_value_column a.list.now ≡ false
good-list e = sym e.column_is_bad.ensures ∙ e.if-column_is_bad.false

row-good : (e : Else-row_is_bad)
    → let a = e.args in
    bad_row a.index.now a.list.now a.row ≡ false
row-good e = sym e.row_is_bad.ensures ∙ e.if-row_is_bad.false

pub returns-then-column_is_bad : goal.returns-then-column_is_bad
unfolding outcome_of
returns-then-column_is_bad c =
    ap refused_by c.bad_argument.ensures
    ∙ row-bad-list _ _ _ (sym c.column_is_bad.ensures ∙ c.if-column_is_bad.true)

pub row_is_bad-requires : goal.row_is_bad-requires
row_is_bad-requires c =
    record {
      index_facts = c.requires;
      list_value = sym c.column_is_bad.ensures ∙ c.if-column_is_bad.false;
    }

pub returns-then-row_is_bad : goal.returns-then-row_is_bad
unfolding outcome_of
returns-then-row_is_bad c =
    ap refused_by c.bad_argument-then-row_is_bad.ensures
    ∙ row-bad-row _ _ _ (good-list c.before.before.before.before)
    (sym c.row_is_bad.ensures ∙ c.if-row_is_bad.true)

pub strays-requires : goal.strays-requires
strays-requires c =
    let g = good-column _ _ _ (good-list c.before.before.before) in record {
      index_facts = c.requires;
      least_column_in_bounds = (g.0, g.1, g.2);
    }

pub returns : goal.returns
returns c = c.strays.ensures ∙ row-rest _ _ _ (good-list c.before.before.before.before) (row-good c.before.before)
