-- `lists::ask::threshold` meets its contract: 8 by one of three tests, and else the engine's answer of at least t. Assumes nothing.
use mathlib.Core.Path.{sym, ◌∙◌, subst}
use mathlib.Core.List.{List}
use Prim.Native.Nat.{ℕ}
use Rattle.meaning.specs.Refusal.{Outcome}
use Rattle.meaning.specs.Answer.{ask_threshold, bad_threshold}
use Rattle.answers.specs.Told.{Reported}
use native.Mathlib.Omega.{arith}
use borrow.Author.Tests.{eq-eqb, ne_eqb, lt-ltb, le-ltb}
use lib.ListN.{length}
use Rattle.fit.proofs.Listing.{good-walkable}
use Rattle.lists.proofs.Choosing.{reported-first, reported-second, reported-third, reported-rest, threshold-body}
use borrow.Author.Rules.{rules}
use Rattle.lists.proofs.ask.threshold.Goals as goal

pub list_is_bad-requires : goal.list_is_bad-requires
list_is_bad-requires c = c.requires.head.head

pub returns-then-list_is_bad : goal.returns-then-list_is_bad
unfolding ask_threshold bad_threshold
returns-then-list_is_bad c =
    let a = c.args in
    reported-first a.index.now a.list.now a.out.now _ _ _ _ c.bad_argument.result c.bad_argument.ensures (sym c.list_is_bad.ensures ∙ c.if-list_is_bad.true)

pub returns-then-t-eq0 : goal.returns-then-t-eq0
unfolding ask_threshold bad_threshold
returns-then-t-eq0 c =
    let a = c.args in
    reported-second a.index.now a.list.now a.out.now _ _ _ _ c.bad_argument-then-t-eq0.result c.bad_argument-then-t-eq0.ensures (sym c.list_is_bad.ensures ∙ c.if-list_is_bad.false) (eq-eqb a.t 0 c.if-t-eq0.true)

pub returns-then-list-wide : goal.returns-then-list-wide
unfolding ask_threshold bad_threshold
returns-then-list-wide c =
    let a = c.args in
    reported-third a.index.now a.list.now a.out.now _ _ _ _ c.bad_argument-then-list-wide.result c.bad_argument-then-list-wide.ensures (sym c.list_is_bad.ensures ∙ c.if-list_is_bad.false) (ne_eqb a.t 0 c.if-t-eq0.false) (lt-ltb (length a.list.now) a.t (omega (arith, c.wide.ensures.0, c.if-list-wide.true)))

pub write_answer-requires : goal.write_answer-requires
write_answer-requires c =
    let a = c.args in
    let w = good-walkable a.index.now a.list.now c.requires (sym c.list_is_bad.ensures ∙ c.if-list_is_bad.false) in
    record {
      walkable = w;
      few-entries = search rules;
    }

pub returns : goal.returns
unfolding ask_threshold bad_threshold
returns c =
    let a = c.args in
    reported-rest a.index.now a.list.now a.out.now _ _ _ _ (sym c.list_is_bad.ensures ∙ c.if-list_is_bad.false) (ne_eqb a.t 0 c.if-t-eq0.false) (le-ltb (length a.list.now) a.t (omega (arith, c.wide.ensures.0, c.if-list-wide.false))) c.write_answer.result c.write_answer.new.out
    (subst (λ (o : Outcome (List ℕ)). Reported a.index.now a.list.now o c.write_answer.result a.out.now c.write_answer.new.out) (threshold-body a.index.now a.list.now a.t (length a.out.now) _) c.write_answer.ensures)
