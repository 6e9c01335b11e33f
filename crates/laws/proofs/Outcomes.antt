-- Outcomes, step by step.
-- Assumes nothing.
use Prim.Native.Nat.{ℕ, ◌≤◌, ◌<◌}
use mathlib.Core.Bool.{Bool, true, false, true≢false}
use mathlib.Core.Path.{◌≡◌, refl, sym, ap, ◌∙◌}
use mathlib.Core.List.{List}
use lib.Dec.{ltb}
use lib.ListN.{length}
use native.Mathlib.Omega.{arith}
use borrow.Author.Tests.{ltb-false, lt-ltb, le-ltb}
use Rattle.meaning.specs.Refusal.{Outcome, refused, answer, Verdict, sound, refuse_if, ◌then◌}
use Rattle.meaning.specs.Answer.{fits}

module _ {A : Type 0} where
  pub refuse-no : (t : Bool) (n b w : ℕ) (o : Outcome A) → t ≡ false → refuse_if t n b w o ≡ o
  unfolding refuse_if
  refuse-no true n b w o e = absurd (true≢false e)
  refuse-no false n b w o e = refl

  pub refuse-yes : (t : Bool) (n b w : ℕ) (o : Outcome A) → t ≡ true → refuse_if t n b w o ≡ refused n b w
  unfolding refuse_if
  refuse-yes true n b w o e = refl
  refuse-yes false n b w o e = absurd (true≢false (sym e))

  pub refuse-answer : (t : Bool) (n b w : ℕ) (o : Outcome A) (a : A) → refuse_if t n b w o ≡ answer a → (t ≡ false) × (o ≡ answer a)
  unfolding refuse_if
  refuse-answer true n b w o a e = let z : ◌≡◌ {A = ℕ} 0 1 = cc in absurd (omega arith)
  refuse-answer false n b w o a e = (refl, e)

  pub then-sound : (v : Verdict) (o : Outcome A) → v ≡ sound → (v then o) ≡ o
  unfolding ◌then◌
  then-sound (refused n b w) o e = let z : ◌≡◌ {A = ℕ} 0 1 = cc in absurd (omega arith)
  then-sound (answer u) o e = refl

  pub then-refused : (v : Verdict) (o : Outcome A) (n b w : ℕ) → v ≡ refused n b w → (v then o) ≡ refused n b w
  then-refused v o n b w e = ap (λ (u : Verdict). u then o) e ∙ unfold ◌then◌ in refl

  pub then-answer : (v : Verdict) (o : Outcome A) (a : A) → (v then o) ≡ answer a → (v ≡ sound) × (o ≡ answer a)
  unfolding ◌then◌
  then-answer (refused n b w) o a e = let z : ◌≡◌ {A = ℕ} 0 1 = cc in absurd (omega arith)
  then-answer (answer u) o a e = (refl, e)

pub fits-yes : (room : ℕ) (ws : List ℕ) → length ws ≤ room → fits room ws ≡ answer ws
unfolding fits refuse_if
fits-yes room ws h = rw (le-ltb room (length ws) h)

pub fits-no : (room : ℕ) (ws : List ℕ) → room < length ws → fits room ws ≡ refused 9 0 (length ws)
unfolding fits refuse_if
fits-no room ws h = rw (lt-ltb room (length ws) h)

pub fits-answer : (room : ℕ) (ws b : List ℕ) → fits room ws ≡ answer b → b ≡ ws
unfolding fits
fits-answer room ws b e = let p = refuse-answer (ltb room (length ws)) 9 0 (length ws) (answer ws) b e in let q = p.1 in cc

pub fits-within : (room : ℕ) (ws b : List ℕ) → fits room ws ≡ answer b → length ws ≤ room
unfolding fits
fits-within room ws b e = ltb-false room (length ws) (refuse-answer (ltb room (length ws)) 9 0 (length ws) (answer ws) b e).0
