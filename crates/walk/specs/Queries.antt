-- A query's cursors, and where they stand in their bodies.
-- Assumes nothing.
use Rattle.std.specs.Prelude.{ℕ, ◌≤◌, ◌<◌, ◌≡◌, List, [], length, get_or}
use Rattle.meaning.specs.Limits.{most_named}
use Rattle.meaning.specs.declared.Format.{Format}
use Rattle.meaning.specs.Index.{bitmap_count, body_at}
use Rattle.laws.specs.Ahead.{Ahead}
use Rattle.ewah.specs.declared.cursor.Cursor.{Cursor}
use Rattle.ewah.specs.declared.cursor.Piece.TheVariants.{Clean}
use Rattle.ewah.specs.Cursors.{InOrder, left_of, pieces_from}

-- what stands in a query before a cursor does
abbrev pub ended : Cursor
ended = record { piece = Clean 0 0; next = 0; dirty = 0 }

-- the cursor at place i
abbrev pub cursor_of : List Cursor → ℕ → Cursor
cursor_of cs i = get_or cs i ended

-- a cursor stands at segment o of the body b, of the format F
pub record CursorAt (F : Format) (b : List ℕ) (o : ℕ) (c : Cursor) : Type 0 where
  pub in_order : InOrder F b c
  pub ahead : Ahead F b o (pieces_from F b c)
  pub at-end : left_of c.piece ≡ 0 → pieces_from F b c ≡ []

-- every number of the list names a bitmap, and there are at most as many as a list may have
pub record Listed (index list : List ℕ) : Type 0 where
  pub most : length list ≤ most_named
  pub its : (i : ℕ) → i < length list → get_or list i 0 < bitmap_count index

-- the body of place i
abbrev pub place_body : (index list : List ℕ) → ℕ → List ℕ
place_body index list i = body_at index (get_or list i 0)

-- every cursor of the first m places stands at segment o of its body
abbrev pub Standing : (F : Format) (index list : List ℕ) (cs : List Cursor) (m o : ℕ) → Type 0
Standing F index list cs m o = (i : ℕ) → i < m → CursorAt F (place_body index list i) o (cursor_of cs i)
