-- What a row of words has once the next segments of one body were taken into it.
-- Assumes nothing.
use Rattle.std.specs.Prelude.{ℕ, ◌+◌, ◌≤◌, ◌<◌, Bool, cond, ◌≡◌, List, length, get_or}
use Rattle.meaning.specs.Limits.{block_segments}
use Rattle.meaning.specs.Format.{segments_of}
use Rattle.meaning.specs.declared.Format.{Format}
use Rattle.laws.specs.Ahead.{Ahead}
use Rattle.ewah.specs.declared.cursor.Cursor.{Cursor}
use Rattle.ewah.specs.Cursors.{pieces_from}
use Rattle.bodies.specs.Walks.{Passes}

-- word i of the row that begins at `at`; where all its segments are alike only the first word is kept
unfoldable pub word_at : (even : Bool) (x : List ℕ) (at i : ℕ) → ℕ
word_at even x at i = get_or x (at + cond even 0 i) 0

-- a cursor stands somewhere with n segments ahead of it
abbrev pub HasAhead : Format → List ℕ → Cursor → ℕ → Type 0
HasAhead F b c n = (o : ℕ) × Ahead F b o (pieces_from F b c) × (o + n ≤ length (segments_of F b))

-- the next n segments of the cursor c became the first n words of the row x, and the cursor went on
pub record SpanTaken (F : Format) (b : List ℕ) (c : Cursor) (n : ℕ) (x : List ℕ) (r : Cursor) : Type 0 where
  pub goes : Passes F b c n r
  pub words : (o : ℕ) → Ahead F b o (pieces_from F b c) → (i : ℕ) → i < n → get_or x i 0 ≡ get_or (segments_of F b) (o + i) 0

-- the next n segments of the cursor c became the row of x at `at`, and the cursor went on; the other rows stay
pub record RowTaken (F : Format) (b : List ℕ) (c : Cursor) (n : ℕ) (even : Bool) (x : List ℕ) (at : ℕ) (x' : List ℕ) (r : Cursor)
    : Type 0 where
  pub goes : Passes F b c n r
  pub words : (o : ℕ) → Ahead F b o (pieces_from F b c) → (i : ℕ) → i < n → word_at even x' at i ≡ get_or (segments_of F b) (o + i) 0
  pub long : length x' ≡ length x
  pub before : (i : ℕ) → i < at → get_or x' i 0 ≡ get_or x i 0
  pub behind : (i : ℕ) → at + block_segments ≤ i → get_or x' i 0 ≡ get_or x i 0
