-- What the check of one entry says of the entries from there on, however many there are.
-- Assumes nothing.
use Rattle.std.specs.Prelude.{ℕ, suc, ◌≤◌, ◌≡◌, List, length, Result, Ok, Err}
use Rattle.meaning.specs.Index.{entries_fault}
use Rattle.answers.specs.declared.refusal.Refusal.{Refusal}
use Rattle.answers.specs.Told.{refused_by}

-- entry k is right, and the next body has to start at `next`
pub record Passed (index : List ℕ) (k end next : ℕ) : Type 0 where
  pub inside : next ≤ length index
  pub same : (more : ℕ) → entries_fault index k (suc more) end ≡ entries_fault index (suc k) more next

-- entry k is wrong, and refused so
pub record Faulty (index : List ℕ) (k end : ℕ) (r : Refusal) : Type 0 where
  pub first : (more : ℕ) → entries_fault index k (suc more) end ≡ refused_by r

abbrev pub Stepped : List ℕ → (k end : ℕ) → Result ℕ Refusal → Type 0
Stepped index k end (Ok next) = Passed index k end next
Stepped index k end (Err r) = Faulty index k end r
