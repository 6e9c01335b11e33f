-- What a survey of the first m places says.
-- Assumes nothing.
use Rattle.std.specs.Prelude.{ℕ, zero, suc, ◌+◌, ◌<◌, min, ◌≡◌, List, length}
use Rattle.meaning.specs.Limits.{most_named, counter_planes}
use Rattle.meaning.specs.Rows.{sum_below}
use Rattle.meaning.specs.Segment.{bit_at}
use Rattle.meaning.specs.declared.Format.{Format}
use Rattle.ewah.specs.declared.cursor.Cursor.{Cursor}
use Rattle.ewah.specs.declared.cursor.Piece as code
use Rattle.ewah.specs.declared.cursor.Piece.TheVariants.{Clean, Dirty}
use Rattle.ewah.specs.Cursors.{InOrder, left_of}
use Rattle.counters.specs.Counters.{count_at}
use Rattle.walk.specs.declared.survey.Survey.{Survey}
use Rattle.walk.specs.Queries.{cursor_of, CursorAt, Standing}

-- 1 for a run of ones
abbrev pub ones_in : code.Piece → ℕ
ones_in (Clean v n) = v
ones_in (Dirty x) = 0

-- 1 for a dirty word
abbrev pub dirty_in : code.Piece → ℕ
dirty_in (Clean v n) = 0
dirty_in (Dirty x) = 1

-- bit j of a dirty word
abbrev pub bit_in : code.Piece → (j : ℕ) → ℕ
bit_in (Clean v n) j = 0
bit_in (Dirty x) j = bit_at x j

-- the least of f 0, .. , f (m - 1), and of all 32 bits set
unfoldable pub least_below : ℕ → (ℕ → ℕ) → ℕ
least_below zero f = 4294967295
least_below (suc m) f = min (least_below m f) (f m)

-- one piece more can be counted in
pub record Room (s : Survey) : Type 0 where
  pub ones_low : s.ones < most_named
  pub dirty-low : s.dirty < most_named
  pub long : length s.planes ≡ counter_planes
  pub counts-low : (j : ℕ) → j < 32 → count_at s.planes j < most_named

-- from s to r one piece was counted in
pub record Weighed (s : Survey) (p : code.Piece) (r : Survey) : Type 0 where
  pub least-is : r.least ≡ min s.least (left_of p)
  pub ones_is : r.ones ≡ s.ones + ones_in p
  pub dirty-is : r.dirty ≡ s.dirty + dirty_in p
  pub long : length r.planes ≡ counter_planes
  pub counts : (j : ℕ) → j < 32 → count_at r.planes j ≡ count_at s.planes j + bit_in p j

-- s is the survey of the first m places
pub record Surveyed (cs : List Cursor) (m : ℕ) (s : Survey) : Type 0 where
  pub least-is : s.least ≡ least_below m (λ i. left_of (cursor_of cs i).piece)
  pub ones_is : s.ones ≡ sum_below m (λ i. ones_in (cursor_of cs i).piece)
  pub dirty-is : s.dirty ≡ sum_below m (λ i. dirty_in (cursor_of cs i).piece)
  pub long : length s.planes ≡ counter_planes
  pub counts : (j : ℕ) → j < 32 → count_at s.planes j ≡ sum_below m (λ i. bit_in (cursor_of cs i).piece j)

-- the cursor c on a body b went n segments on, from any segment o, to c', and its piece was counted in
pub record Moved (F : Format) (b : List ℕ) (c : Cursor) (n : ℕ) (c' : Cursor) (s r : Survey) : Type 0 where
  pub in_order : InOrder F b c'
  pub on : (o : ℕ) → CursorAt F b o c → CursorAt F b (o + n) c'
  pub weighed : Weighed s c'.piece r

-- all cursors of the list did
pub record MovedAll (F : Format) (index list : List ℕ) (cs : List Cursor) (n : ℕ) (cs' : List Cursor) (s : Survey) : Type 0 where
  pub long : length cs' ≡ length cs
  pub on : (o : ℕ) → Standing F index list cs (length list) o → Standing F index list cs' (length list) (o + n)
  pub surveyed : Surveyed cs' (length list) s
