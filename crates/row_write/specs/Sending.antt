-- A canonical body whose segments go to the writer one after the other, stored or only measured: how far it is.
-- Assumes nothing.
use Rattle.std.specs.Prelude.{ℕ, ◌≤◌, Bool, true, ◌≡◌, List, length}
use Rattle.meaning.specs.Limits.{most_rows}
use Rattle.meaning.specs.Segment.{Segment, kinds, from_rows, segment_count}
use Rattle.meaning.specs.Format.{width, canonical}
use Rattle.meaning.specs.declared.Format.{Format}
use Rattle.ewah_write.specs.declared.writer.Writer.{Writer}
use Rattle.body_write.specs.Bodies.{UpTo}

-- the segments of the R rows q
abbrev pub all_of : Format → (R : ℕ) → (ℕ → Bool) → List Segment
all_of F R q = kinds (width F) R (from_rows (width F) R q)

-- of the canonical body of the R rows q the first s segments were put since the buffer was `old`: where they are
-- stored, it has room for all
pub record Sent (F : Format) (R : ℕ) (q : ℕ → Bool) (old : List ℕ) (store : Bool) (out : List ℕ) (s : ℕ) (w : Writer)
    : Type 0 where
  pub few : R ≤ most_rows
  pub room : store ≡ true → length (canonical F R q) ≤ length old
  pub within : s ≤ segment_count (width F) R
  pub long : length out ≡ length old
  pub up : UpTo F R (all_of F R q) store old out w s
