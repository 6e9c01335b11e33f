-- What follows from tests that hold or fail together.
-- Assumes nothing.
use mathlib.Core.Bool.{Bool, true, false, ◌&&◌, ◌||◌, true≢false}
use mathlib.Core.Path.{◌≡◌, refl, sym, ◌∙◌}
use mathlib.Core.Logic.{◌⊎◌, inl, inr}

pub or-false : (a b : Bool) → a || b ≡ false → (a ≡ false) × (b ≡ false)
or-false true b e = absurd (true≢false e)
or-false false b e = (refl, e)

pub or-true : (a b : Bool) → b ≡ true → a || b ≡ true
or-true true b e = refl
or-true false b e = e

-- of three tests that fail the first does
pub first-false : (a b c : Bool) → a || b || c ≡ false → a ≡ false
first-false a b c e = (or-false a b (or-false (a || b) c e).0).0

-- what does not hold fails
pub never_true : (t : Bool) → (t ≡ true → ⊥) → t ≡ false
never_true true h = absurd (h refl)
never_true false h = refl

-- no test both holds and fails
pub never_both : (t : Bool) → t ≡ true → t ≡ false → ⊥
never_both t e f = true≢false (sym e ∙ f)

-- one of two tests holds
pub or_cases : (a b : Bool) → a || b ≡ true → (a ≡ true) ⊎ (b ≡ true)
or_cases true b e = inl refl
or_cases false b e = inr e

-- two tests hold
pub and_both : (a b : Bool) → a ≡ true → b ≡ true → a && b ≡ true
and_both a b e f = rw (e, f)

-- in either order
pub and-swap : (a b : Bool) → a && b ≡ b && a
and-swap true true = refl
and-swap true false = refl
and-swap false true = refl
and-swap false false = refl

pub and_assoc : (a b c : Bool) → (a && b) && c ≡ a && (b && c)
and_assoc true b c = refl
and_assoc false b c = refl

-- with a test that holds, and with one that fails
pub and_yes : (a : Bool) → a && true ≡ a
and_yes true = refl
and_yes false = refl

pub and_no : (a : Bool) → a && false ≡ false
and_no true = refl
and_no false = refl

-- one of two tests, of which the second is itself of two parts
pub and-over-or : (a b c d : Bool) → a && (b || (c && d)) ≡ (a && b) || ((a && c) && d)
and-over-or true b c d = refl
and-over-or false b c d = refl
