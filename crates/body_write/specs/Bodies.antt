-- The writer's state and the segments that were put, in either format: how it grows, what its buffer holds, a step
-- that may store or only measure, and how far a body is.
-- Assumes nothing.
use Rattle.std.specs.Prelude.{ℕ, ◌+◌, ◌-◌, ◌≤◌, Bool, true, false, ◌≡◌, length, take, drop}
use mathlib.Core.List.{List, [], ◌++◌, foldl}
use Rattle.meaning.specs.Limits.{most_segments}
use Rattle.meaning.specs.Segment.{Segment, rows_in}
use Rattle.meaning.specs.Canonical.{blank, put, ewah_of}
use Rattle.meaning.specs.Wah.{wah_draft, wah_put, wah_body}
use Rattle.meaning.specs.Format.{width}
use Rattle.meaning.specs.declared.Format.{Format}
use Rattle.meaning.specs.declared.Format.TheVariants.{Ewah, Wah}
use Rattle.ewah_write.specs.declared.writer.Writer.{Writer}
use Rattle.ewah_write.specs.Drafts.{Tracks}
use Rattle.wah_write.specs.WahDrafts.{WahTracks}

-- the words of the segments ss, the last of which has `real` rows
abbrev pub so_far : Format → (real : ℕ) → List Segment → List ℕ
so_far Ewah real ss = ewah_of ss
so_far Wah real ss = wah_body real (foldl wah_put (wah_draft [] 0 0) ss)

-- w stands for the format's draft of the segments ss
abbrev pub TracksOf : Format → Writer → List Segment → Type 0
TracksOf Ewah w ss = Tracks w (foldl put blank ss)
TracksOf Wah w ss = WahTracks w (foldl wah_put (wah_draft [] 0 0) ss)

-- w is the state of the writer where the segments ss were put
pub record Stands (F : Format) (w : Writer) (ss : List Segment) : Type 0 where
  pub tracks : TracksOf F w ss

-- some were put, and with n more they are no more than a body can have
abbrev pub Growing : Format → Writer → (n : ℕ) → Type 0
Growing F w n = (before : List Segment) × Stands F w before × (length before + n ≤ most_segments)

-- from w to r the segments ss are put, whatever was put before
abbrev pub Grown : Format → Writer → List Segment → Writer → Type 0
Grown F w ss r =
    (before : List Segment) → Stands F w before → length before + length ss ≤ most_segments → Stands F r (before ++ ss)

-- some were put, and with the segments ss they are no more than a body can have, and take at most n words
abbrev pub RoomFor : Format → List Segment → Writer → (n : ℕ) → Type 0
RoomFor F ss w n =
    (before : List Segment) × Stands F w before × (length before + length ss ≤ most_segments)
    × (length (so_far F (width F) (before ++ ss)) ≤ n)

-- from `out` and w to `out'` and r the segments ss are put, the last of which has `real` rows, behind whole ones;
-- what lies behind their words keeps its values
pub record Pushed (F : Format) (real : ℕ) (out out' : List ℕ) (w : Writer) (ss : List Segment) (r : Writer) : Type 0 where
  pub grown : Grown F w ss r
  pub drawn : (before : List Segment) → Stands F w before → length before + length ss ≤ most_segments
      → take w.used out ≡ so_far F (width F) before → take r.used out' ≡ so_far F real (before ++ ss)
  pub kept : drop r.used out' ≡ drop r.used out

-- the segments ss are put, the last of which has `real` rows; the buffer has their words where they are stored, and
-- is as it was where they are not
pub record Emitted (F : Format) (real : ℕ) (out out' : List ℕ) (w : Writer) (ss : List Segment) (store : Bool) (r : Writer) : Type 0 where
  pub grown : Grown F w ss r
  pub stored : store ≡ true → Pushed F real out out' w ss r
  pub kept : store ≡ false → out' ≡ out

-- since the buffer was `old`, the words of the segments ss were written, the last of which has `real` rows, and what
-- lies behind kept its values
pub record Written (F : Format) (real : ℕ) (old out : List ℕ) (w : Writer) (ss : List Segment) : Type 0 where
  pub stands : Stands F w ss
  pub words : take w.used out ≡ so_far F real ss
  pub kept : drop w.used out ≡ drop w.used old

-- the first o of the segments ss of R rows are put, and written where `store` says so; where it does not, the buffer
-- is as it was
pub record UpTo (F : Format) (R : ℕ) (ss : List Segment) (store : Bool) (old out : List ℕ) (w : Writer) (o : ℕ)
    : Type 0 where
  pub stands : Stands F w (take o ss)
  pub stored : store ≡ true → Written F (rows_in (width F) R (o - 1)) old out w (take o ss)
  pub kept : store ≡ false → out ≡ old
