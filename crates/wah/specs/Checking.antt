-- What one step of the check says of a body from the word x on, whatever comes behind x, the bitmap's number and the word's place.
-- Assumes nothing.
use Rattle.std.specs.Prelude.{ℕ, suc, ◌≤◌, ◌≡◌, List, ◌∷◌, Result, Ok, Err}
use Rattle.meaning.specs.Refusal.{refused}
use Rattle.meaning.specs.Wah.{wah_fault_from}
use Rattle.answers.specs.declared.refusal.Fault.{Fault}
use Rattle.answers.specs.Told.{number_of}

-- x has no fault, where `left` segments are to come, and behind it `rest` are
pub record Passed (R left x rest : ℕ) : Type 0 where
  pub fewer : rest ≤ left
  pub same : (k place : ℕ) (xs : List ℕ) → wah_fault_from k R place left (x ∷ xs) ≡ wah_fault_from k R (suc place) rest xs

-- the first fault is at x
pub record Faulty (R left x number : ℕ) : Type 0 where
  pub first : (k place : ℕ) (xs : List ℕ) → wah_fault_from k R place left (x ∷ xs) ≡ refused number k place

abbrev pub Stepped : (R left x : ℕ) → Result ℕ Fault → Type 0
Stepped R left x (Ok rest) = Passed R left x rest
Stepped R left x (Err fault) = Faulty R left x (number_of fault)
