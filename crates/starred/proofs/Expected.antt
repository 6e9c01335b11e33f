-- What a call told and left is what the reading expects.
-- Assumes nothing.
use Prim.Native.Nat.{ℕ}
use mathlib.Core.Path.{◌≡◌, refl, ap, ◌∙◌}
use mathlib.Core.Bool.{true}
use mathlib.Core.List.{List, [], ◌∷◌}
use lib.Pointwise.{pointwise}
use lib.Dec.{eqb}
use borrow.Author.Tests.{eq-eqb}
use native.Mathlib.Omega.{arith}
use Rattle.std.specs.Prelude.{Result, Ok, Err}
use Rattle.meaning.specs.Refusal.{Outcome, refused, answer}
use Rattle.meaning.specs.Answer.{buffer_after, stretches_reported}
use Rattle.answers.specs.declared.refusal.Refusal.{Refusal}
use Rattle.answers.specs.declared.answer.Report.{Report}
use Rattle.answers.specs.Told.{refused_by, outcome_of, written_of, words_of, Wrote, answered_of, words_in, stretches_in, Reported}
use Rattle.answers.proofs.Settled.{outcome-one}
use Rattle.starred.specs.Reading.{sevens, Writes}

module _ (o : Outcome (List ℕ)) (words : ℕ) (after : List ℕ) (h : Writes o words after) where
  pub wrote-told : (out' : List ℕ) (w : Result ℕ Refusal) → Wrote o w sevens out' → (w ≡ Ok words) × (out' ≡ after)
  unfolding words_of written_of
  wrote-told out' (Ok n) g = (ap Ok (g.words ∙ h.words_are), g.left ∙ h.after_is)
  wrote-told out' (Err r) g = let e : refused_by r ≡ answer h.body = g.told ∙ h.is-answer in let z : ◌≡◌ {A = ℕ} 0 1 = cc in absurd (omega arith)

  pub answered-told : (index list : List ℕ) (s : ℕ) → stretches_reported index list o ≡ s → (out' : List ℕ) (a : Result Report Refusal)
      → Reported index list o a sevens out' → (a ≡ Ok (record { words = words; stretches = s })) × (out' ≡ after)
  unfolding words_in stretches_in answered_of
  answered-told index list s e out' (Ok a) g = (rw (← h.words_are, ← e, ← g.words, ← g.stretches) refl, g.left ∙ h.after_is)
  answered-told index list s e out' (Err r) g = let q : refused_by r ≡ answer h.body = g.told ∙ h.is-answer in let z : ◌≡◌ {A = ℕ} 0 1 = cc in absurd (omega arith)

-- a refused threshold question
module _ (index list out out' : List ℕ) (o : Outcome (List ℕ)) (r : Refusal) (e : o ≡ refused_by r) (a : Result Report Refusal) (g : Reported index list o a out out') where
  pub refused-told : a ≡ Err r
  unfolding answered_of outcome_of
  refused-told = go a (g.told ∙ e)
    where
      go : (a : Result Report Refusal) → answered_of a out' ≡ refused_by r → a ≡ Err r
      go (Ok p) q = let z : ◌≡◌ {A = ℕ} 0 1 = cc in absurd (omega arith)
      go (Err s) q = let f : ◌≡◌ {A = Result (List ℕ) Refusal} (Err s) (Err r) = outcome-one (Err s) (Err r) q in let k : s ≡ r = cc in ap Err k

  pub refused-left : out' ≡ out
  unfolding buffer_after
  refused-left = g.left ∙ ap (λ (x : Outcome (List ℕ)). buffer_after x out) e

-- words are equal to themselves
pub same_self : (xs : List ℕ) → pointwise eqb xs xs ≡ true
same_self [] = refl
same_self (x ∷ xs) = rw (eq-eqb x x refl) (same_self xs)
