-- A body's writer found again: what it stands for.
-- Assumes nothing.
use Rattle.std.specs.Prelude.{ℕ, ◌+◌, ◌-◌, ◌*◌, ◌/◌, ◌%◌, ◌≤◌, ◌<◌, Bool, true, ◌≡◌, length, get_or, take, drop, set}
use mathlib.Core.List.{List, map, foldl}
use Rattle.meaning.specs.Segment.{kind, kinds, fill, from_rows, word_of}
use Rattle.meaning.specs.Ewah.{marker, segments}
use Rattle.meaning.specs.Canonical.{Draft, blank, draft, body, put}
use Rattle.meaning.specs.Format.{rows_of, Canonical}
use Rattle.meaning.specs.declared.Format.TheVariants.{Ewah}
use Rattle.ewah.specs.Markers.{InRange}
use Rattle.ewah_write.specs.declared.writer.Writer.{Writer}
use Rattle.ewah_write.specs.Drafts.{Tracks, Drawn}
use Rattle.ewah_write.specs.Mixed.{is_mixed}
use Rattle.resume.specs.declared.Place.{Place}
use Rattle.std.specs.Prelude.{Option, None, Some}

-- the draft of the segments that the R rows p fill whole
abbrev pub whole_of : (R : ℕ) → (ℕ → Bool) → Draft
whole_of R p = foldl put blank (take (R / 32) (kinds 32 R (from_rows 32 R p)))

-- the buffer with the writer's last marker stored as the writer has it
abbrev pub restored : List ℕ → Writer → List ℕ
restored out w = set out w.at (marker w.last.value w.last.clean w.last.dirty)

-- the buffer begins with the canonical body of the R rows p: the place is that of its writer before the segment that is not whole,
-- and has this segment's rows. All words but the last marker are those of the whole segments
pub record PlaceOf (R : ℕ) (p : ℕ → Bool) (out : List ℕ) (r : Place) : Type 0 where
  pub tracks : Tracks r.writer (whole_of R p)
  pub inside : r.writer.used ≤ length out
  pub words : take r.writer.used (restored out r.writer) ≡ body (whole_of R p)
  pub part-is : r.part ≡ word_of (R % 32) (λ j. p (R / 32 * 32 + j))

-- the body's writer, or that it is not in canonical form
abbrev pub ResumedIs : (R : ℕ) → List ℕ → Option Place → Type 0
ResumedIs R b None = Canonical Ewah R b → ⊥
ResumedIs R b (Some r) = Canonical Ewah R b × PlaceOf R (rows_of Ewah b) b r

-- ---- what the walk knows, and hands on at its end

-- the draft of the first n segments of a body, each taken as one of 32 rows
abbrev pub draft_of : List ℕ → ℕ → Draft
draft_of b n = foldl put blank (map (kind 32) (take n (segments b)))

-- the writer w stands for the draft d, and b begins with its words once w's last marker is restored
pub record Resumes (b : List ℕ) (w : Writer) (d : Draft) : Type 0 where
  pub tracks : Tracks w d
  pub inside : w.used ≤ length b
  pub words : take w.used (restored b w) ≡ body d

-- w stands for the first n segments of b. Its last marker has some of them, and `before` stands for those that it has not
pub record LastMarker (b : List ℕ) (n : ℕ) (before w : Writer) : Type 0 where
  pub earlier : ℕ
  pub drawn : Drawn b before (draft_of b earlier)
  pub at-is : w.at ≡ before.used
  pub used-is : w.used ≡ w.at + 1 + w.last.dirty
  pub inside : w.used ≤ length b
  pub in-range : InRange w.last
  pub some : 0 < w.last.clean + w.last.dirty
  pub counts : earlier + (w.last.clean + w.last.dirty) ≡ n
  -- a marker with the first of its segments alone, c clean ones and d dirty words
  pub fewer : (c d : ℕ) → 0 < c + d → c ≤ w.last.clean → d ≤ w.last.dirty → (0 < d → c ≡ w.last.clean)
      → draft_of b (earlier + (c + d)) ≡ draft (body (draft_of b earlier)) w.last.value c (take d (drop (w.at + 1) b))
  -- the last of its segments
  pub run_end : w.last.dirty ≡ 0 → get_or (segments b) (n - 1) 0 ≡ fill 32 w.last.value
  pub word_end : (w.last.dirty ≡ 0 → ⊥) → get_or (segments b) (n - 1) 0 ≡ get_or b (w.used - 1) 0
  pub end-mixed : (w.last.dirty ≡ 0 → ⊥) → is_mixed (get_or b (w.used - 1) 0) ≡ true

-- the whole body was walked: w is its writer, and where it has a marker, `before` the writer before the last one
pub record Walked (b : List ℕ) (before w : Writer) : Type 0 where
  pub drawn : Drawn b w (draft_of b (length (segments b)))
  pub all : w.used ≡ length b
  pub last : 0 < length b → LastMarker b (length (segments b)) before w
