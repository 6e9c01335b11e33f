-- The writer's state and the WAH draft that it stands for: how it grows, and what its buffer holds.
-- Assumes nothing.
use Rattle.std.specs.Prelude.{ℕ, ◌+◌, ◌≤◌, ◌<◌, min, ◌≡◌, length, take, drop}
use mathlib.Core.List.{List, foldl}
use Rattle.meaning.specs.Limits.{most_fill}
use Rattle.meaning.specs.Segment.{Segment}
use Rattle.meaning.specs.Wah.{WahDraft, wah_draft, wah_body, wah_put}
use Rattle.ewah.specs.declared.marker.Marker.{Marker}
use Rattle.ewah_write.specs.declared.writer.Writer.{Writer}

-- `used` words that end with a run of n clean segments of value v; what a WAH body has no use for is 0
abbrev pub ending : (used v n : ℕ) → Writer
ending used v n = record { used = used; at = 0; last = record { value = v; clean = n; dirty = 0 } }

-- as many words in use as the draft has, and its last run
abbrev pub Same : Writer → WahDraft → Type 0
Same w (wah_draft done v n) = (w.used ≡ length done + min n 1) × (w.last.value ≡ v) × (w.last.clean ≡ n)

-- the numbers of a last run are those that a fill can have, and there is no dirty count
pub record InFill (m : Marker) : Type 0 where
  pub value_low : m.value < 2
  pub clean-low : m.clean ≤ most_fill
  pub no-dirty : m.dirty ≡ 0

-- w stands for the draft d
pub record WahTracks (w : Writer) (d : WahDraft) : Type 0 where
  pub same : Same w d
  pub in-fill : InFill w.last

-- from w to r the segments ss are put, whatever w stands for
abbrev pub Grown : Writer → List Segment → Writer → Type 0
Grown w ss r = (d : WahDraft) → WahTracks w d → WahTracks r (foldl wah_put d ss)

-- w stands for some draft, which with the segments ss has at most n words
abbrev pub RoomFor : List Segment → Writer → ℕ → Type 0
RoomFor ss w n = (d : WahDraft) × WahTracks w d × (length (wah_body 31 (foldl wah_put d ss)) ≤ n)

-- from `out` and w to `out'` and r the segments ss are put, the last of which has `real` rows, and all before it 31;
-- what lies behind keeps its values
pub record Pushed (real : ℕ) (out out' : List ℕ) (w : Writer) (ss : List Segment) (r : Writer) : Type 0 where
  pub grown : Grown w ss r
  pub drawn : (d : WahDraft) → WahTracks w d → take w.used out ≡ wah_body 31 d
      → take r.used out' ≡ wah_body real (foldl wah_put d ss)
  pub kept : drop r.used out' ≡ drop r.used out
