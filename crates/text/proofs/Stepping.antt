-- The steps of the listing, and the chunks that they fill.
-- Assumes nothing.
use Prim.Native.Nat.{ℕ, ◌+◌, ◌-◌, ◌*◌, ◌/◌, ◌≤◌, ◌<◌}
use mathlib.Core.Path.{◌≡◌, refl, sym, ap, ◌∙◌}
use mathlib.Core.Bool.{false, cond}
use mathlib.Core.List.{List, [], ◌++◌, append_assoc}
use native.Mathlib.Omega.{arith}
use lib.ListN.{length}
use Rattle.meaning.specs.Segment.{is_set}
use Rattle.meaning.specs.Format.{width, segments_of, rows_of}
use Rattle.ewah.specs.Cursors.{left_of}
use Rattle.bodies.specs.Walks.{word_of}
use Rattle.text.specs.declared.listing.Listing.{Listing}
use Rattle.text.specs.Lines.{line, lines_from}
use Rattle.text.specs.Listings.{lines_left, SameRows, Stepped, none, more, ChunksList}
use Rattle.text.proofs.Walking.{rest-next, rest-past, rest-skip, row_is, none-set, past-on}

-- a row that is to come is one of the body's segments
pub row-here : (s : Listing) → s.row < s.rows → s.row < length (segments_of s.format s.body.now) * width s.format
row-here s h = omega (arith, h, s.covers.all)

module _ (s s' : Listing) (of : SameRows s s') (h : s.row < s.rows) where
  -- what is left then
  left-then : lines_from (rows_of s.format s.body.now) s'.row (s.rows - s'.row) ≡ lines_left s'
  left-then = rw (of.format, of.body, of.rows) refl

  module _ (x : ℕ) (x-is : x ≡ word_of s.format s.cursor.piece) where
    -- past a piece of zeros
    pub stepped-skip : (out : List ℕ) → x ≡ 0 → s'.row ≡ (s.row / width s.format + left_of s.cursor.piece) * width s.format → Stepped s out s' out
    stepped-skip out z e =
        record {
          of = of;
          on = later;
          same = ap (λ (t : List ℕ). out ++ t) ((rw to at (rest-skip (rows_of s.format s.body.now) s.rows n s.row none)) ∙ left-then);
        }
      where
        later : s.row < s'.row
        later = omega (arith, e, past-on s.standing (row-here s h))

        n : ℕ
        n = s'.row - s.row

        to : s.row + n ≡ s'.row
        to = omega (arith, later)

        none : (r : ℕ) → s.row ≤ r → r < s.row + n → rows_of s.format s.body.now r ≡ false
        none r l m = none-set s.standing (row-here s h) (sym x-is ∙ z) r l (omega (arith, later, e, m))

    -- past one row
    pub stepped_row : (out out' : List ℕ) → s'.row ≡ s.row + 1 → out' ≡ out ++ cond (is_set x s.bit) (line s.row) [] → Stepped s out s' out'
    stepped_row out out' e put =
        record {
          of = of;
          on = omega arith;
          same =
              ap (λ (t : List ℕ). out ++ t) ((rw bit at (rest-next (rows_of s.format s.body.now) s.rows s.row h)) ∙ ap (λ (t : List ℕ). its ++ t) ((rw (← e) refl) ∙ left-then))
              ∙ sym (append_assoc out its (lines_left s')) ∙ ap (λ (t : List ℕ). t ++ lines_left s') (sym put);
        }
      where
        its : List ℕ
        its = cond (is_set x s.bit) (line s.row) []

        bit : rows_of s.format s.body.now s.row ≡ is_set x s.bit
        bit = row_is s.standing (row-here s h) ∙ ap (λ (w : ℕ). is_set w s.bit) (sym x-is)

-- ---- all chunks

pub chunks-list : ChunksList
chunks-list _ _ (none s h) = sym (rest-past (rows_of s.format s.body.now) s.rows s.row h)
chunks-list _ _ (more n s out s' rest c cs) = ap (λ (t : List ℕ). out ++ t) (chunks-list s' rest cs) ∙ sym c.same
