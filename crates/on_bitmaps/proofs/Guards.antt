-- A call behind a check: where the check finds nothing the index is sound and the bitmap is one of it.
-- Assumes nothing.
use Prim.Native.Nat.{ℕ, ◌<◌}
use mathlib.Core.Path.{◌≡◌}
use mathlib.Core.List.{List}
use Rattle.meaning.specs.Index.{bitmap_count}
use Rattle.meaning.specs.Answer.{bitmap_refusal}
use Rattle.laws.specs.Laws.{IndexFacts}
use Rattle.laws.proofs.BitmapPart.{part-laws}
use Rattle.std.specs.Prelude.{Result, Ok, Err}
use Rattle.answers.specs.declared.refusal.Refusal.{Refusal}
use Rattle.answers.specs.Told.{outcome_of}
use Rattle.answers.proofs.Checks.{sound-is}

-- a bitmap that is not refused
pub known-index : (k : Result (Unit {0}) Refusal) (index : List ℕ) (i : ℕ) → outcome_of k ≡ bitmap_refusal index i → k ≡ Ok tt
    → IndexFacts index × (i < bitmap_count index)
known-index k index i e h = let p = part-laws.known index i (sound-is k (bitmap_refusal index i) e h) in (p.facts, p.below)
