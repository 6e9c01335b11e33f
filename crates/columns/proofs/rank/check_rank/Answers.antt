-- `columns::rank::check_rank` meets its contract: 8, then 11.
-- Assumes nothing.
use mathlib.Core.Bool.{false}
use mathlib.Core.Path.{◌≡◌, sym, ap, ◌∙◌}
use Rattle.meaning.specs.Limits.{most_column}
use Rattle.column_meaning.specs.Columns.{bad_column}
use Rattle.answers.specs.Told.{refused_by, outcome_of}
use Rattle.columns.proofs.Asking.{good-column, rank-bad-list, rank-too-many, rank-rest}
use native.Mathlib.Omega.{arith}
use Rattle.columns.proofs.rank.check_rank.Lts
use Rattle.columns.proofs.rank.check_rank.Reads
use Rattle.columns.proofs.rank.check_rank.Tie
use Rattle.columns.proofs.rank.check_rank.Goals as goal

-- places in the code that lemmas below speak of
abbrev Else-column_is_bad : Type 0
Else-column_is_bad = Lts.Else1 Tie.the-claims Reads.Pre Reads.Post Tie.handed_clauses

-- behind the first test
good-list : (e : Else-column_is_bad)
    → let a = e.args in
    bad_column a.index.now most_column a.list.now ≡ false
good-list e = sym e.column_is_bad.ensures ∙ e.if-column_is_bad.false

pub returns-then-column_is_bad : goal.returns-then-column_is_bad
unfolding outcome_of
returns-then-column_is_bad c =
    ap refused_by c.bad_argument.ensures
    ∙ rank-bad-list _ _ _ (sym c.column_is_bad.ensures ∙ c.if-column_is_bad.true)

pub existing-requires : goal.existing-requires
existing-requires c =
    record {
      index_facts = c.requires;
      list_value = good-list c.before;
    }

pub returns-then-existing-k : goal.returns-then-existing-k
unfolding outcome_of
returns-then-existing-k c =
    ap refused_by c.bad_argument-then-existing-k.ensures
    ∙ rank-too-many _ _ _ (good-list c.before.before.before.before) c.existing.result c.existing.ensures c.if-existing-k.true

pub strays-requires : goal.strays-requires
strays-requires c =
    let g = good-column _ _ _ (good-list c.before.before.before) in record {
      index_facts = c.requires;
      least_column_in_bounds = (g.0, omega (arith, g.1), g.2);
    }

pub returns : goal.returns
returns c =
    c.strays.ensures
    ∙ rank-rest _ _ _ (good-list c.before.before.before.before) c.existing.result c.existing.ensures c.if-existing-k.false
