-- What a search for a set row answers while it goes on.
-- Assumes nothing.
use Rattle.std.specs.Prelude.{ℕ, ◌+◌, ◌*◌, ◌≡◌, List, length}
use Rattle.meaning.specs.Segment.{has_row, ones}
use Rattle.laws.specs.Demands.{IsNth}
use Rattle.ewah_nth.specs.declared.nth.Sought.{Sought}
use Rattle.ewah_nth.specs.declared.nth.Sought.TheVariants.{Here, Ahead}

-- in these segments: the set row with k set rows before it, or how many of k are left when all of theirs are passed
abbrev pub SoughtIn : List ℕ → (k : ℕ) → Sought → Type 0
SoughtIn xs k (Here r) = IsNth (length xs * 32) (has_row 32 xs) k r
SoughtIn xs k (Ahead j) = ones 32 xs + j ≡ k
