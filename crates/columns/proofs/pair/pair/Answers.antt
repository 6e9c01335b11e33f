-- `columns::pair::pair` meets its contract: 8 of either list, 11 of the first column, and then `pair_second`.
-- Assumes nothing.
use Prim.Native.Nat.{ℕ}
use mathlib.Core.Bool.{false}
use mathlib.Core.Path.{◌≡◌, sym, ◌∙◌, subst}
use mathlib.Core.List.{List}
use lib.ListN.{length}
use Rattle.meaning.specs.Limits.{most_column}
use Rattle.meaning.specs.Refusal.{Outcome, ◌then◌}
use Rattle.column_meaning.specs.Columns.{bad_column, strays, write_pair}
use Rattle.answers.specs.Told.{Wrote}
use Rattle.answers.proofs.Tells.{wrote-stopped, wrote_then}
use Rattle.columns.proofs.Asking.{good-column, pair-bad-first, pair-bad-second, pair-rest}
use native.Mathlib.Omega.{arith}
use Rattle.columns.proofs.pair.pair.Goals as goal

pub returns-then-column_is_bad : goal.returns-then-column_is_bad
returns-then-column_is_bad c =
    let a = c.args in
    pair-bad-first a.op a.index.now a.first.now a.second.now a.out.now (sym c.column_is_bad.ensures ∙ c.if-column_is_bad.true) c.bad_argument.result c.bad_argument.ensures

pub returns-then-column_is_bad-2 : goal.returns-then-column_is_bad-2
returns-then-column_is_bad-2 c =
    let a = c.args in
    pair-bad-second a.op a.index.now a.first.now a.second.now a.out.now (sym c.column_is_bad.ensures ∙ c.if-column_is_bad.false) (sym c.column_is_bad-2.ensures ∙ c.if-column_is_bad-2.true) c.bad_argument-then-column_is_bad-2.result c.bad_argument-then-column_is_bad-2.ensures

pub strays-requires : goal.strays-requires
strays-requires c =
    let g = good-column _ _ _ (sym c.column_is_bad.ensures ∙ c.if-column_is_bad.false) in record {
      index_facts = c.requires;
      least_column_in_bounds = (g.0, omega (arith, g.1), g.2);
    }

pub pair_second-requires : goal.pair_second-requires
pair_second-requires c =
    record {
      index_facts = c.requires;
      first_value = sym c.column_is_bad.ensures ∙ c.if-column_is_bad.false;
      second_value = sym c.column_is_bad-2.ensures ∙ c.if-column_is_bad-2.false;
    }

pub returns-in_err-strays : goal.returns-in_err-strays
returns-in_err-strays c =
    let a = c.args in
    subst (λ (o : Outcome (List ℕ)). Wrote o c.from_residual.result a.out.now a.out.now)
    (pair-rest a.op a.index.now a.first.now a.second.now a.out.now (sym c.column_is_bad.ensures ∙ c.if-column_is_bad.false) (sym c.column_is_bad-2.ensures ∙ c.if-column_is_bad-2.false))
    (wrote-stopped _ _ (strays a.index.now a.second.now then write_pair a.index.now a.op a.first.now a.second.now (length a.out.now)) _ _ _ c.strays.ensures c.in_err-strays.was c.from_residual.ensures.1)

pub returns : goal.returns
returns c =
    let a = c.args in
    subst (λ (o : Outcome (List ℕ)). Wrote o c.pair_second.result a.out.now c.pair_second.new.out)
    (pair-rest a.op a.index.now a.first.now a.second.now a.out.now (sym c.column_is_bad.ensures ∙ c.if-column_is_bad.false) (sym c.column_is_bad-2.ensures ∙ c.if-column_is_bad-2.false))
    (wrote_then c.strays.result _ (strays a.index.now a.second.now then write_pair a.index.now a.op a.first.now a.second.now (length a.out.now)) c.pair_second.result a.out.now c.pair_second.new.out c.strays.ensures c.in_ok-strays.was c.pair_second.ensures)
