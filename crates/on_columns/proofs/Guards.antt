-- What is told of the largest or smallest rows meets demand 3.
-- Assumes nothing.
use Prim.Native.Nat.{ℕ}
use mathlib.Core.Path.{sym, subst₂}
use mathlib.Core.List.{List}
use lib.ListN.{length}
use Rattle.meaning.specs.Refusal.{Outcome}
use Rattle.column_meaning.specs.Columns.{ranked}
use Rattle.meaning.specs.declared.Ranking.{Ranking}
use Rattle.laws.specs.RankLaws.{RankAsked, RankDemand}
use Rattle.laws.proofs.RankHolds.{rank-holds}
use Rattle.std.specs.Prelude.{Result, Ok, Err}
use Rattle.answers.specs.declared.refusal.Refusal.{Refusal}
use Rattle.answers.specs.Told.{written_of, Wrote}

pub demand-met : (op : Ranking) (index list : List ℕ) (k : ℕ) (r : Result ℕ Refusal) (out out' : List ℕ)
    → Wrote (ranked index op list k (length out)) r out out' → RankAsked index list k
    → RankDemand op index list k out (written_of r out') out'
demand-met op index list k r out out' w a =
    subst₂ (λ (o : Outcome (List ℕ)) (b : List ℕ). RankDemand op index list k out o b) (sym w.told) (sym w.left)
    (rank-holds.demand op index list k out a)
