-- What one step of the check says of the rest of the body, whatever the bitmap's number and the place of its first word.
-- Assumes nothing.
use Rattle.std.specs.Prelude.{ℕ, ◌+◌, ◌≤◌, ◌<◌, ◌≡◌, List, length, drop, Result, Ok, Err}
use Rattle.meaning.specs.Refusal.{refused}
use Rattle.meaning.specs.Ewah.{fault_from}
use Rattle.answers.specs.Told.{number_of}
use Rattle.ewah.specs.declared.check.Rest.{Rest}
use Rattle.ewah.specs.declared.check.Wrong.{Wrong}

-- the rest has no fault before `next`
pub record Passed (b : List ℕ) (R at left next rest : ℕ) : Type 0 where
  pub on : at < next
  pub inside : next ≤ length b
  pub fewer : rest ≤ left
  pub same : (k start : ℕ) → fault_from k R (start + at) 0 left (drop at b) ≡ fault_from k R (start + next) 0 rest (drop next b)

-- the rest has this fault first
pub record Faulty (b : List ℕ) (R at left number place : ℕ) : Type 0 where
  pub inside : place < length b
  pub first : (k start : ℕ) → fault_from k R (start + at) 0 left (drop at b) ≡ refused number k (start + place)

abbrev pub Stepped : List ℕ → (R : ℕ) → Rest → Result Rest Wrong → Type 0
Stepped b R from (Ok rest) = Passed b R from.at from.left rest.at rest.left
Stepped b R from (Err wrong) = Faulty b R from.at from.left (number_of wrong.fault) wrong.at
