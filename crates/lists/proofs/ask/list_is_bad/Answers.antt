-- `lists::ask::list_is_bad` meets its contract: each way is a law of `Listing`. Assumes nothing.
use mathlib.Core.Bool.{false≢true}
use mathlib.Core.Path.{sym, ap, ◌∙◌}
use Prim.Native.Nat.{ℕ}
use mathlib.Core.List.{List}
use Rattle.meaning.specs.Answer.{any_bad}
use Rattle.std.proofs.Common.{rules}
use Rattle.std.proofs.lemmas.List.{take_all}
use borrow.Author.Tests.{eq-eqb, eqb-true}
use Rattle.fit.proofs.Listing.{bad-none, bad-long, bad-names}
use Rattle.lists.proofs.ask.list_is_bad.Goals as goal

pub returns-then-is_empty : goal.returns-then-is_empty
returns-then-is_empty c = bad-none c.args.index.now c.args.list.now (eqb-true _ 0 (sym c.is_empty.ensures ∙ c.if-is_empty.true))

pub returns-then-list-gt-MOST_NAMED : goal.returns-then-list-gt-MOST_NAMED
returns-then-list-gt-MOST_NAMED c = bad-long c.args.index.now c.args.list.now (λ e. false≢true (sym c.if-is_empty.false ∙ c.is_empty.ensures ∙ eq-eqb _ 0 e)) c.if-list-gt-MOST_NAMED.true

pub returns : goal.returns
returns c =
    bad-names c.args.index.now c.args.list.now (λ e. false≢true (sym c.if-is_empty.false ∙ c.is_empty.ensures ∙ eq-eqb _ 0 e)) c.if-list-gt-MOST_NAMED.false _ (c.names_missing.ensures ∙ ap (λ (xs : List ℕ). any_bad c.args.index.now xs) (search (rules, take_all)))
