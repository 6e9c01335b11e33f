-- Where the listing stands, and what its cursor says of the rows there.
-- Assumes nothing.
use Prim.Native.Nat.{ℕ, zero, suc, ◌+◌, ◌-◌, ◌*◌, ◌/◌, ◌%◌, ◌≤◌, ◌<◌}
use mathlib.Core.Path.{◌≡◌, refl, sym, ap, subst, ◌∙◌}
use mathlib.Core.Bool.{Bool, true, false, cond}
use mathlib.Core.List.{List, [], ◌++◌}
use native.Mathlib.Omega.{arith}
use native.Mathlib.Numerals.{add-one}
use native.Mathlib.Nat.{div-add-mod', mod-lt, div-lt_iff_lt-mul, le-div_iff_mul-le}
use native.Mathlib.Nat.{one-mul, add-mul, mul-le-mul, mul-le-mul_right}
use lib.Arith.{digits_div, digits_mod}
use lib.ListN.{length, get_or}
use lib.Dec.{leb}
use borrow.Author.Tests.{leb-true, leb-false}
use Rattle.meaning.specs.Limits.{most_segments}
use Rattle.meaning.specs.Segment.{has_row, is_set}
use Rattle.meaning.specs.Piece.{NoneEmpty}
use Rattle.meaning.specs.Format.{width, pieces_of, segments_of, rows_of}
use Rattle.meaning.specs.declared.Format.{Format}
use Rattle.laws.specs.Ahead.{advanced}
use Rattle.laws.proofs.Formats.{width-pos, width-le}
use Rattle.laws.proofs.Counting.{zero_clear}
use Rattle.ewah.specs.declared.cursor.Cursor.{Cursor}
use Rattle.ewah.specs.Cursors.{Stands, InOrder, left_of, pieces_from}
use Rattle.bodies.specs.Walks.{word_of}
use Rattle.bodies.proofs.Spans.{piece-word}
use Rattle.walk.specs.Queries.{CursorAt}
use Rattle.walk.proofs.Places.{opened, gone-on, some_left, left-within}
use Rattle.text.specs.Lines.{line, lines_from}
use Rattle.text.specs.Standings.{Covers, Standing}

-- ---- the text to come

module _ (p : ℕ → Bool) (R : ℕ) where
  -- the line of the next row, if it is set, and the rest
  pub rest-next : (row : ℕ) → row < R
      → lines_from p row (R - row) ≡ cond (p row) (line row) [] ++ lines_from p (row + 1) (R - (row + 1))
  unfolding lines_from
  rest-next row h = let e : R - row ≡ suc (R - (row + 1)) = omega arith in rw (e, add-one row)

  -- past the last row there is none
  pub rest-past : (row : ℕ) → R ≤ row → lines_from p row (R - row) ≡ []
  unfolding lines_from
  rest-past row h = let e : R - row ≡ 0 = omega arith in rw e

  rest-one : (row : ℕ) → p row ≡ false → lines_from p row (R - row) ≡ lines_from p (row + 1) (R - (row + 1))
  rest-one row e = go (leb R row) refl
    where
      go : (t : Bool) → leb R row ≡ t → lines_from p row (R - row) ≡ lines_from p (row + 1) (R - (row + 1))
      go true t = rest-past row (leb-true R row t) ∙ sym (rest-past (row + 1) (omega (arith, leb-true R row t)))
      go false t = rest-next row (leb-false R row t) ∙ rw e

  -- rows that are not set have no text
  pub rest-skip : (n row : ℕ) → ((r : ℕ) → row ≤ r → r < row + n → p r ≡ false)
      → lines_from p row (R - row) ≡ lines_from p (row + n) (R - (row + n))
  rest-skip zero row none = let e : row + 0 ≡ row = omega arith in rw e
  rest-skip (suc n) row none =
      let e : row + 1 + n ≡ row + suc n = omega arith in
      rest-one row (none row (omega arith) (omega arith))
      ∙ (rw e at (rest-skip n (row + 1) (λ r l m. none r (omega arith) (omega arith))))

-- ---- where it stands

-- at bit `bit` of segment o
standing-at : (F : Format) (b : List ℕ) (c : Cursor) (o row bit : ℕ) → CursorAt F b o c → row ≡ o * width F + bit
    → bit < width F → Covers F b row → Standing F b c row bit
standing-at F b c o row bit a e l w =
    record {
      at = subst (λ (i : ℕ). CursorAt F b i c) (sym (ap (λ (r : ℕ). r / width F) e ∙ digits_div o l)) a;
      place = sym (ap (λ (r : ℕ). r % width F) e ∙ digits_mod o l);
      within = w;
    }

pub opened-standing : (F : Format) (b : List ℕ) (c : Cursor) → NoneEmpty (pieces_of F b)
    → length (segments_of F b) ≤ most_segments → Stands F b c (pieces_of F b)
    → Standing F b c 0 0
opened-standing F b c k h s =
    let w : Covers F b 0 = record { some = k; few = h; all = omega arith } in
    standing-at F b c 0 0 0 (opened F b c k s) (omega arith) (width-pos F) w

module _ {F : Format} {b : List ℕ} {c₀ : Cursor} {row₀ bit₀ : ℕ} (st : Standing F b c₀ row₀ bit₀) where
  -- the segment of the row
  abbrev o : ℕ
  o = row₀ / width F

  -- the row is this bit of it
  pub row-parts : row₀ / width F * width F + bit₀ ≡ row₀
  row-parts = rw st.place (div-add-mod' row₀ (width F))

  bit-low : bit₀ < width F
  bit-low = rw st.place (mod-lt row₀ (width-pos F))

  -- the rows of all segments are numbers of 32 bits
  pub few-rows : length (segments_of F b) * width F ≤ most_segments * 32
  few-rows = mul-le-mul st.within.few (width-le F)

  -- a row further on, within the segments
  covers-on : (row : ℕ) → row ≤ length (segments_of F b) * width F → Covers F b row
  covers-on row l = record { some = st.within.some; few = st.within.few; all = l }

  module _ (h : row₀ < length (segments_of F b) * width F) where
    here : row₀ / width F < length (segments_of F b)
    here = (div-lt_iff_lt-mul (width-pos F)).1 h

    some-here : 1 ≤ left_of c₀.piece
    some-here = some_left F b o c₀ st.at here

    -- n segments of the piece are segments of the body
    segments-within : (n : ℕ) → n ≤ left_of c₀.piece
        → (row₀ / width F + n) * width F ≤ length (segments_of F b) * width F
    segments-within n l = mul-le-mul_right (width F) (omega (arith, left-within F b o c₀ st.at here))

    -- ---- the rows of the piece

    -- its j-th segment is its word
    word_at : (j : ℕ) → j < left_of c₀.piece
        → get_or (segments_of F b) (row₀ / width F + j) 0 ≡ word_of F c₀.piece
    word_at j l = piece-word F b o c₀ st.at.ahead j l

    -- the row is a bit of this word
    pub row_is : rows_of F b row₀ ≡ is_set (word_of F c₀.piece) bit₀
    unfolding rows_of has_row
    row_is =
        let e : o + 0 ≡ o = omega arith in
        rw st.place (ap (λ (x : ℕ). is_set x (row₀ % width F)) (rw e at (word_at 0 some-here)))

    -- where the word is 0 no row of the piece is set
    pub none-set : word_of F c₀.piece ≡ 0 → (r : ℕ) → row₀ ≤ r
        → r < (row₀ / width F + left_of c₀.piece) * width F → rows_of F b r ≡ false
    unfolding rows_of has_row
    none-set e r l m =
        let from : o ≤ r / width F = (le-div_iff_mul-le (width-pos F)).1 (omega (arith, row-parts)) in
        let to : r / width F < o + left_of c₀.piece = (div-lt_iff_lt-mul (width-pos F)).1 m in
        let q : o + (r / width F - o) ≡ r / width F = omega arith in
        ap (λ (x : ℕ). is_set x (r % width F)) ((rw q at (word_at (r / width F - o) (omega arith))) ∙ e)
        ∙ zero_clear (r % width F)

    -- ---- to the first row of a later segment

    pub may-advance : (n : ℕ) → n ≡ left_of c₀.piece
        → InOrder F b c₀ × ((1 ≤ n) × (n ≤ left_of c₀.piece))
    may-advance n e = (st.at.in_order, (omega (arith, some-here), omega arith))

    pub may-step : InOrder F b c₀ × ((1 ≤ 1) × (1 ≤ left_of c₀.piece))
    may-step = (st.at.in_order, (omega arith, some-here))

    -- n segments on, at most to the piece's end
    on-standing : (n : ℕ) (d : Cursor) (row : ℕ) → 1 ≤ n → n ≤ left_of c₀.piece
        → Stands F b d (advanced n (pieces_from F b c₀)) → row ≡ (row₀ / width F + n) * width F
        → Standing F b d row 0
    on-standing n d row g l t e =
        standing-at F b d (o + n) row 0 (gone-on F b c₀ o n d g l t st.at) (omega arith) (width-pos F)
        (covers-on row (omega (arith, segments-within n l)))

    -- the first row behind the piece, counted on from the first one of this segment
    row-past : (n w : ℕ) → n ≡ left_of c₀.piece → w ≡ width F
        → row₀ - bit₀ + n * w ≡ (row₀ / width F + left_of c₀.piece) * width F
    row-past n w e f =
        let k = left_of c₀.piece in
        rw (e, f) (omega (arith, row-parts, add-mul o k (width F)))

    -- is a number of 32 bits
    pub past_fits : (n w : ℕ) → n ≡ left_of c₀.piece → w ≡ width F
        → row₀ - bit₀ + n * w ≤ most_segments * 32
    past_fits n w e f =
        let k = left_of c₀.piece in
        omega (arith, row-past n w e f, segments-within k (omega arith), few-rows)

    -- is further on
    pub past-on : row₀ < (row₀ / width F + left_of c₀.piece) * width F
    past-on =
        let k = left_of c₀.piece in
        let w : 1 * width F ≤ k * width F = mul-le-mul_right (width F) some-here in
        omega (arith, row-parts, bit-low, add-mul o k (width F), one-mul (width F))

    -- and the cursor, having gone on by all that is left of its piece, stands there
    pub past-standing : (n w : ℕ) (d : Cursor) → n ≡ left_of c₀.piece → w ≡ width F
        → Stands F b d (advanced n (pieces_from F b c₀))
        → Standing F b d (row₀ - bit₀ + n * w) 0
        × (row₀ - bit₀ + n * w ≡ (row₀ / width F + left_of c₀.piece) * width F)
    past-standing n w d e f t =
        let r = row-past n w e f in
        let m = may-advance n e in
        (on-standing n d _ m.1.0 m.1.1 t (r ∙ ap (λ (k : ℕ). (o + k) * width F) (sym e)), r)

    -- ---- to the next row

    -- the first of the next segment
    pub next-standing : (d : Cursor) (row : ℕ) → row ≡ row₀ + 1 → width F ≤ bit₀ + 1
        → Stands F b d (advanced 1 (pieces_from F b c₀))
        → Standing F b d row 0
    next-standing d row e l t =
        let r : row ≡ (o + 1) * width F = omega (arith, row-parts, bit-low, add-mul o 1 (width F)) in
        on-standing 1 d row (omega arith) some-here t r
