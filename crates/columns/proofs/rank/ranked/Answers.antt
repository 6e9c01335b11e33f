-- `columns::rank::ranked` meets its contract: what `check_rank` refuses, and then `write_ranked`.
-- Assumes nothing.
use Prim.Native.Nat.{ℕ}
use mathlib.Core.Path.{refl, ◌∙◌, subst}
use mathlib.Core.List.{List}
use Rattle.meaning.specs.Refusal.{Outcome, Verdict}
use Rattle.answers.specs.Told.{Wrote}
use Rattle.answers.proofs.Checks.{sound-is}
use Rattle.answers.proofs.Tells.{wrote-stopped, wrote_then}
use Rattle.columns.proofs.Asking.{rank_verdict, rank-passed, writes, ranked-then}
use Rattle.columns.proofs.rank.ranked.Goals as goal

pub write_ranked-requires : goal.write_ranked-requires
write_ranked-requires c =
    let a = c.args in
    let v : Verdict = rank_verdict a.index.now a.list.now a.k in record {
      index_facts = c.requires;
      k_value = rank-passed _ _ _ refl (sound-is c.check_rank.result v c.check_rank.ensures c.in_ok-check_rank.was);
    }

pub returns-in_err-check_rank : goal.returns-in_err-check_rank
returns-in_err-check_rank c =
    let a = c.args in
    subst (λ (o : Outcome (List ℕ)). Wrote o c.from_residual.result a.out.now a.out.now)
    (ranked-then a.index.now a.list.now a.k a.op a.out.now)
    (wrote-stopped _ (rank_verdict a.index.now a.list.now a.k) (writes a.index.now a.list.now a.k a.op a.out.now) _ _ _
    c.check_rank.ensures c.in_err-check_rank.was c.from_residual.ensures.1)

pub returns : goal.returns
returns c =
    let a = c.args in
    let v : Verdict = rank_verdict a.index.now a.list.now a.k in
    subst (λ (o : Outcome (List ℕ)). Wrote o c.write_ranked.result a.out.now c.write_ranked.new.out)
    (ranked-then a.index.now a.list.now a.k a.op a.out.now)
    (wrote_then c.check_rank.result v (writes a.index.now a.list.now a.k a.op a.out.now) c.write_ranked.result
    a.out.now c.write_ranked.new.out c.check_rank.ensures c.in_ok-check_rank.was c.write_ranked.ensures)
