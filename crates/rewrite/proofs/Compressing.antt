-- The segment that goes to the writer next, where a frame has the rows of plain words.
-- Assumes nothing.
use Prim.Native.Nat.{ℕ, ◌+◌, ◌-◌, ◌<◌, ◌^◌}
use mathlib.Core.Bool.{Bool}
use mathlib.Core.Path.{◌≡◌}
use mathlib.Core.List.{[], ◌∷◌}
use native.Mathlib.Omega.{arith}
use lib.ListN.{get_or}
use Rattle.meaning.specs.Segment.{kind, segment_count, rows_in, from_rows, all_set}
use Rattle.meaning.specs.Format.{width}
use Rattle.meaning.specs.declared.Format.{Format}
use Rattle.words.specs.declared.frame.Frame.{Frame}
use Rattle.row_write.proofs.Sending.{Next, next_word}

module _ (F : Format) (R : ℕ) (q : ℕ → Bool) (f : Frame) (of : (f.format ≡ F) × (f.rows ≡ R)) where
  pub count : f.segments ≡ segment_count (width F) R
  count = rw (← of.0, ← of.1) f.total

  -- x is the word that it goes to the writer as
  pub next-of : (i x : ℕ) → i < f.segments
      → kind (width f.format) x ≡ kind (rows_in (width f.format) f.rows i) (get_or (from_rows (width f.format) f.rows q) i 0)
      → Next F R q i (kind (width F) x ∷ [])
  next-of i x h e = next_word F R q i x (omega (arith, count)) (rw (of.0, of.1) at e)

  -- its rows as a mask of that many
  pub mask-of : (i mask : ℕ) → mask ≡ all_set (rows_in (width f.format) f.rows (i + 1 - 1))
      → mask ≡ 2 ^ rows_in (width F) R (i + 1 - 1) - 1
  unfolding all_set
  mask-of i mask e = rw (of.0, of.1) at e
