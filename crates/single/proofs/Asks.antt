-- Questions on a sound body: what is refused with 8, and the answers.
-- Assumes nothing.
use Prim.Native.Nat.{ℕ, ◌≤◌, ◌<◌}
use mathlib.Core.Bool.{Bool, true, false, false≢true}
use mathlib.Core.Path.{◌≡◌, refl, ap}
use mathlib.Core.List.{List}
use borrow.Author.Tests.{le-leb, lt-leb}
use lib.ListN.{length}
use Rattle.std.specs.Prelude.{Option, Some, None}
use Rattle.std.specs.Option.{ok_or}
use Rattle.answers.specs.declared.refusal.Refusal.{Refusal}
use Rattle.answers.specs.declared.refusal.Fault.TheVariants.{BadArgument}
use Rattle.answers.specs.Told.{refusal, refused_by, outcome_of, found_of}
use Rattle.meaning.specs.Refusal.{refused, answer, refuse_if}
use Rattle.meaning.specs.Format.{canonical}
use Rattle.meaning.specs.declared.Format.{Format}
use Rattle.meaning.specs.declared.Row.{Row}
use Rattle.meaning.specs.Extent.{row_answer}
use Rattle.meaning.specs.Answer.{ask_row}

pub row-past : (F : Format) (R : ℕ) (b : List ℕ) (r : ℕ) → R ≤ r → refused 8 0 0 ≡ ask_row F R b r
unfolding ask_row refuse_if
row-past F R b r h = rw (le-leb R r h)

pub row_here : (F : Format) (R : ℕ) (b : List ℕ) (r : ℕ) (x : Row) → r < R → x ≡ row_answer F R b r → answer x ≡ ask_row F R b r
unfolding ask_row refuse_if
row_here F R b r x h e = rw (lt-leb R r h, e)

-- a body that is only measured asks for no room
pub not-stored : (F : Format) (R : ℕ) (p : ℕ → Bool) (out : List ℕ) → false ≡ true → length (canonical F R p) ≤ length out
not-stored F R p out e = absurd (false≢true e)

-- what is found, and a bad argument where nothing is
pub found-or-refused : (f : Option ℕ) (r : Refusal) → r ≡ refusal BadArgument 0 → outcome_of (ok_or f r) ≡ found_of f
unfolding outcome_of found_of
found-or-refused (Some n) r e = refl
found-or-refused None r e = ap refused_by e
