-- A call behind a check: where the check finds nothing it tells what the question behind it tells.
-- Assumes nothing.
use Prim.Native.Nat.{ℕ}
use mathlib.Core.Path.{◌≡◌, sym, subst₂}
use mathlib.Core.List.{List}
use lib.ListN.{length}
use Rattle.meaning.specs.Refusal.{Outcome, Verdict, ◌then◌}
use Rattle.meaning.specs.Answer.{threshold}
use Rattle.laws.specs.Demands.{Asked, ThresholdDemand}
use Rattle.laws.proofs.Demanded.{threshold-demand}
use Rattle.laws.proofs.Outcomes.{then-sound}
use Rattle.std.specs.Prelude.{Result, Ok, Err}
use Rattle.answers.specs.declared.answer.Report.{Report}
use Rattle.answers.specs.declared.refusal.Refusal.{Refusal}
use Rattle.answers.specs.Told.{outcome_of, answered_of, Reported}
use Rattle.answers.proofs.Checks.{sound-is}

pub reported-then : (index list : List ℕ) (k : Result (Unit {0}) Refusal) (v : Verdict) (o : Outcome (List ℕ)) (r : Result Report Refusal) (out out' : List ℕ) → outcome_of k ≡ v → k ≡ Ok tt → Reported index list o r out out' → Reported index list (v then o) r out out'
reported-then index list k v o r out out' e h w = rw (then-sound v o (sound-is k v e h)) w

-- what is reported of a threshold question meets its demand
pub demand-met : (index list : List ℕ) (t : ℕ) (r : Result Report Refusal) (out out' : List ℕ) → Reported index list (threshold index list t (length out)) r out out'
    → Asked index list t → ThresholdDemand index list t out (answered_of r out') out'
demand-met index list t r out out' w a = subst₂ (λ (o : Outcome (List ℕ)) (b : List ℕ). ThresholdDemand index list t out o b) (sym w.told) (sym w.left) (threshold-demand index list t out a)
