-- The writer's state and the draft that it stands for: how it grows, and what its buffer holds.
-- Assumes nothing.
use Rattle.std.specs.Prelude.{ℕ, ◌+◌, ◌-◌, ◌≤◌, cond, ◌&&◌, ◌≡◌, eqb, length, take, drop}
use mathlib.Core.List.{List, foldl}
use Rattle.meaning.specs.Limits.{most_clean, most_dirty}
use Rattle.meaning.specs.Segment.{Segment}
use Rattle.meaning.specs.Canonical.{Draft, blank, draft, body, put}
use Rattle.ewah_write.specs.declared.writer.Writer.{Writer}
use Rattle.ewah.specs.Markers.{InRange}

-- the writer's last marker is the draft's, at the draft's place, and its words in use are as many; for a blank draft the marker counts as full
abbrev pub Same : Writer → Draft → Type 0
Same w blank = (w.used ≡ 0) × (w.last.clean ≡ most_clean) × (w.last.dirty ≡ most_dirty)
Same w (draft done v c ds) =
    (w.at ≡ length done) × (w.used ≡ length done + 1 + length ds) × (w.last.value ≡ v) × (w.last.clean ≡ c) × (w.last.dirty ≡ length ds)

-- w stands for the draft d
pub record Tracks (w : Writer) (d : Draft) : Type 0 where
  pub same : Same w d
  pub in-range : InRange w.last

-- w stands for some draft
abbrev pub Writing : Writer → Type 0
Writing w = (d : Draft) × Tracks w d

-- and with the segments ss that draft has at most n words
abbrev pub RoomFor : List Segment → Writer → ℕ → Type 0
RoomFor ss w n = (d : Draft) × Tracks w d × (length (body (foldl put d ss)) ≤ n)

-- how many clean segments of value v the last marker can still take
unfoldable pub free_of : Writer → ℕ → ℕ
free_of w v = cond (eqb w.last.dirty 0 && eqb w.last.value v) (most_clean - w.last.clean) 0

-- from w to r the segments ss are put, whatever w stands for
abbrev pub Grown : Writer → List Segment → Writer → Type 0
Grown w ss r = (d : Draft) → Tracks w d → Tracks r (foldl put d ss)

-- the buffer begins with the words of the draft d, for which w stands
pub record Drawn (out : List ℕ) (w : Writer) (d : Draft) : Type 0 where
  pub tracks : Tracks w d
  pub words : take w.used out ≡ body d

-- from `out` and w to `out'` and r the segments ss are put, and what lies behind keeps its values
pub record Pushed (out out' : List ℕ) (w : Writer) (ss : List Segment) (r : Writer) : Type 0 where
  pub grown : Grown w ss r
  pub drawn : (d : Draft) → Drawn out w d → Drawn out' r (foldl put d ss)
  pub kept : drop r.used out' ≡ drop r.used out
