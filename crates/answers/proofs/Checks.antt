-- A check k comes first, whose verdict is v: what it refuses is refused, and where it finds no fault the rest is answered.
-- Assumes nothing.
use Prim.Native.Nat.{ℕ}
use native.Mathlib.Omega.{arith}
use mathlib.Core.Path.{◌≡◌, sym, ap, ◌∙◌}
use mathlib.Core.List.{List}
use Rattle.meaning.specs.Refusal.{Outcome, Verdict, sound, ◌then◌}
use Rattle.meaning.specs.Answer.{check}
use Rattle.laws.specs.Laws.{IndexFacts}
use Rattle.laws.proofs.IndexSound.{index-means}
use Rattle.laws.proofs.Outcomes.{then-sound}
use Rattle.answers.specs.declared.refusal.Refusal.{Refusal}
use Rattle.std.specs.Prelude.{Result, Ok, Err}
use Rattle.std.specs.Result.{IsErrAnd}
use Rattle.answers.specs.Told.{refused_by, outcome_of}

pub refused-not-sound : {v : Verdict} (r : Refusal) → v ≡ refused_by r → v ≡ sound → ⊥
refused-not-sound r f s = let e = sym f ∙ s in let z : ◌≡◌ {A = ℕ} 0 1 = cc in omega arith

module _ (k : Result (Unit {0}) Refusal) (v : Verdict) (e : outcome_of k ≡ v) where
  pub refused-is : (r : Refusal) → k ≡ Err r → v ≡ refused_by r
  unfolding outcome_of
  refused-is r h = sym e ∙ ap outcome_of h

  pub sound-is : k ≡ Ok tt → v ≡ sound
  unfolding outcome_of
  sound-is h = sym e ∙ ap outcome_of h

  module _ {A : Type 0} (o : Outcome A) where
    pub refuses : (r : Refusal) → k ≡ Err r → refused_by r ≡ (v then o)
    unfolding ◌then◌
    refuses r h = rw (refused-is r h)

    -- the call hands the refusal on
    pub stopped : (r : Result A Refusal) (x : Refusal) → k ≡ Err x → IsErrAnd r (λ y. y ≡ x) → outcome_of r ≡ (v then o)
    unfolding outcome_of
    stopped (Ok a) x h g = elim g [ ]
    stopped (Err y) x h g = ap refused_by g ∙ refuses x h

    pub answers : (x : Outcome A) → k ≡ Ok tt → x ≡ o → x ≡ (v then o)
    answers x h f = f ∙ sym (then-sound v o (sound-is h))

-- a check of a whole index
pub checked-index : (k : Result (Unit {0}) Refusal) (index : List ℕ) → outcome_of k ≡ check index → k ≡ Ok tt → IndexFacts index
unfolding check
checked-index k index e h = (index-means index).0 (sound-is k (check index) e h)
