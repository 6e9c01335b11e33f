-- `logical::ask_list` meets its contract: 8 for a bitmap that is not there, and else the answer's words alone. Assumes nothing.
use Rattle.logical.proofs.Pairs.{alone-words, alone-refused, chosen-body, bad-refused, good-rest, listed}
use Rattle.std.specs.Prelude.{Ok}
use Rattle.answers.specs.Told.{Wrote}
use Rattle.meaning.specs.Refusal.{Outcome}
use Rattle.meaning.specs.Answer.{fits}
use Rattle.merge.specs.Merges.{answer_body}
use lib.ListN.{length}
use Prim.Native.Nat.{ℕ}
use mathlib.Core.List.{List, []}
use mathlib.Core.Path.{sym, ◌∙◌, subst}
use native.Mathlib.Omega.{arith}
use Rattle.logical.proofs.ask_list.Goals as goal

pub names_missing-requires : goal.names_missing-requires
names_missing-requires c = c.requires.index_facts.head.head

pub returns-then-names_missing : goal.returns-then-names_missing
returns-then-names_missing c =
    λ p bad b h.
    let a = c.args in
    bad-refused a.out.now bad _ (sym b ∙ sym c.names_missing.ensures ∙ c.if-names_missing.true) c.bad_argument.result c.bad_argument.ensures

pub write_answer-requires : goal.write_answer-requires
write_answer-requires c =
    let few = listed c.args.index.now c.args.list.now c.requires.in_bounds.1 (sym c.names_missing.ensures ∙ c.if-names_missing.false) in
    record { walkable = record { facts = c.requires.index_facts; listed = few; some = c.requires.in_bounds.0 }; few-entries = omega arith }

pub returns-in_err-report : goal.returns-in_err-report
returns-in_err-report c =
    λ p bad b h.
    let a = c.args in
    good-rest a.out.now bad _ (sym b ∙ sym c.names_missing.ensures ∙ c.if-names_missing.false) c.from_residual.result c.write_answer.new.out
    (subst (λ (o : Outcome (List ℕ)). Wrote o c.from_residual.result a.out.now c.write_answer.new.out)
    (chosen-body a.index.now a.list.now a.op (length a.out.now) p h)
    (alone-refused a.index.now a.list.now (fits (length a.out.now) (answer_body a.index.now a.list.now a.op [])) a.out.now c.write_answer.new.out
    c.write_answer.result _ c.from_residual.result c.in_err-report.was c.from_residual.ensures.1 c.write_answer.ensures))

pub returns : goal.returns
returns c =
    λ p bad b h.
    let a = c.args in
    good-rest a.out.now bad _ (sym b ∙ sym c.names_missing.ensures ∙ c.if-names_missing.false) (Ok c.in_ok-report.report.words) c.write_answer.new.out
    (subst (λ (o : Outcome (List ℕ)). Wrote o (Ok c.in_ok-report.report.words) a.out.now c.write_answer.new.out)
    (chosen-body a.index.now a.list.now a.op (length a.out.now) p h)
    (alone-words a.index.now a.list.now (fits (length a.out.now) (answer_body a.index.now a.list.now a.op [])) a.out.now c.write_answer.new.out
    c.write_answer.result c.in_ok-report.report c.in_ok-report.was c.write_answer.ensures))
