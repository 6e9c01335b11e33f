-- `lists::ask::symmetric` meets its contract: 8 by one of three tests, and else the engine's answer by the table. Assumes nothing.
use mathlib.Core.Path.{sym, ◌∙◌, subst}
use mathlib.Core.List.{List}
use Prim.Native.Nat.{ℕ}
use lib.ListN.{length}
use Rattle.meaning.specs.Refusal.{Outcome}
use Rattle.meaning.specs.Answer.{ask_symmetric, bad_symmetric}
use Rattle.answers.specs.Told.{Reported}
use Rattle.fit.proofs.Listing.{good-walkable}
use Rattle.lists.proofs.Choosing.{reported-first, reported-second, reported-third, reported-rest, symmetric-body, size-wrong, size-right}
use native.Mathlib.Omega.{arith}
use Rattle.lists.proofs.ask.symmetric.Goals as goal

pub list_is_bad-requires : goal.list_is_bad-requires
list_is_bad-requires c = c.requires.head.head

pub returns-then-list_is_bad : goal.returns-then-list_is_bad
unfolding ask_symmetric bad_symmetric
returns-then-list_is_bad c =
    let a = c.args in
    reported-first a.index.now a.list.now a.out.now _ _ _ _ c.bad_argument.result c.bad_argument.ensures (sym c.list_is_bad.ensures ∙ c.if-list_is_bad.true)

pub overflow_add-list : goal.overflow_add-list
overflow_add-list c =
    omega (arith, (good-walkable c.args.index.now c.args.list.now c.requires (sym c.list_is_bad.ensures ∙ c.if-list_is_bad.false)).listed.most)

pub returns-then-table-list : goal.returns-then-table-list
unfolding ask_symmetric bad_symmetric
returns-then-table-list c =
    let a = c.args in
    reported-second a.index.now a.list.now a.out.now _ _ _ _ c.bad_argument-then-table-list.result c.bad_argument-then-table-list.ensures (sym c.list_is_bad.ensures ∙ c.if-list_is_bad.false) (size-wrong _ _ c.if-table-list.true)

pub returns-then-entry_is_bad : goal.returns-then-entry_is_bad
unfolding ask_symmetric bad_symmetric
returns-then-entry_is_bad c =
    let a = c.args in
    reported-third a.index.now a.list.now a.out.now _ _ _ _ c.bad_argument-then-entry_is_bad.result c.bad_argument-then-entry_is_bad.ensures (sym c.list_is_bad.ensures ∙ c.if-list_is_bad.false) (size-right _ _ c.if-table-list.false) (sym c.entry_is_bad.ensures ∙ c.if-entry_is_bad.true)

pub write_answer-requires : goal.write_answer-requires
write_answer-requires c =
    let a = c.args in
    let w = good-walkable a.index.now a.list.now c.requires (sym c.list_is_bad.ensures ∙ c.if-list_is_bad.false) in
    record { walkable = w; few-entries = omega (arith, w.listed.most, c.if-table-list.false) }

pub returns : goal.returns
unfolding ask_symmetric bad_symmetric
returns c =
    let a = c.args in
    reported-rest a.index.now a.list.now a.out.now _ _ _ _ (sym c.list_is_bad.ensures ∙ c.if-list_is_bad.false) (size-right _ _ c.if-table-list.false) (sym c.entry_is_bad.ensures ∙ c.if-entry_is_bad.false) c.write_answer.result c.write_answer.new.out
    (subst (λ (o : Outcome (List ℕ)). Reported a.index.now a.list.now o c.write_answer.result a.out.now c.write_answer.new.out) (symmetric-body a.index.now a.list.now (length a.out.now) a.table.now) c.write_answer.ensures)
