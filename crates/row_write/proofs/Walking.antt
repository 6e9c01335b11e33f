-- A walk over the pieces of a body that counts the rows still to come, for either format: what the piece ahead says of
-- them, and how it goes on.
-- Assumes nothing.
use Prim.Native.Nat.{ℕ, suc, ◌+◌, ◌-◌, ◌*◌, ◌/◌, ◌%◌, ◌^◌, ◌≤◌, ◌<◌, min}
use mathlib.Core.Path.{◌≡◌, sym, ap, ◌∙◌}
use mathlib.Core.List.{List, []}
use lib.Dec.{eqb}
use lib.ListN.{length}
use native.Mathlib.Nat.{div-add-mod', mod-lt, mod-eq_of_lt, div-lt_iff_lt-mul, mul-le-mul_right, add-mul, one-mul}
use native.Mathlib.Decide.{dec_le}
use native.Mathlib.Omega.{arith}
use Rattle.meaning.specs.Limits.{most_rows, most_segments}
use Rattle.meaning.specs.Segment.{segment_count, is_set, bit_at, fill}
use Rattle.meaning.specs.Format.{width, pieces_of, segments_of, rows_of}
use Rattle.meaning.specs.declared.Format.{Format}
use Rattle.meaning.specs.declared.Format.TheVariants.{Ewah, Wah}
use Rattle.laws.specs.Laws.{SoundFacts}
use Rattle.laws.specs.Ahead.{Ahead, advanced, first_size}
use Rattle.laws.proofs.Formats.{width-pos, width-le, segments-most, facts-some, facts-count}
use Rattle.laws.proofs.Cut.{bit_below}
use Rattle.laws.proofs.RowWords.{eqb-bit, has-at, rows_fit}
use Rattle.laws.proofs.Even.{bit-fill}
use Rattle.laws.proofs.Walked.{ahead-start, ahead-on, ahead_within}
use Rattle.ewah.specs.declared.cursor.Cursor.{Cursor}
use Rattle.ewah.specs.declared.cursor.Piece as code
use Rattle.ewah.specs.declared.cursor.Piece.TheVariants.{Clean, Dirty}
use Rattle.ewah.specs.Cursors.{Stands, InOrder, ValueLow, left_of, pieces_from}
use Rattle.bodies.specs.Walks.{word_of}
use Rattle.bodies.proofs.Advancing.{first-left}
use Rattle.bodies.proofs.Spans.{left-some, piece-word}
use Rattle.row_write.specs.Walking.{row_in, Gives}

-- a segment that begins below R rows is one of theirs
pub starts-below : (w : ℕ) → 0 < w → (R i : ℕ) → i * w < R → i < segment_count w R
starts-below w pos R i h = elim (dec_le (suc i) (segment_count w R)) [
  | yes g ↦ g
  | no g ↦ (let l : segment_count w R ≤ i = omega arith in absurd (omega (arith, rows_fit w pos R, mul-le-mul_right w l)))
]

-- each row of a run has its value
fill-row : (w v j : ℕ) → v < 2 → j < w → is_set (fill w v) j ≡ eqb v 1
fill-row w v j h l =
    sym (eqb-bit (is_set (fill w v) j)) ∙ ap (λ (n : ℕ). eqb n 1) (bit-fill w v j h l)

-- the rows of a body's segments are counted in a word
rows-low : (F : Format) (n : ℕ) → n ≤ most_segments → n * width F < 2 ^ 32
rows-low Ewah n h = omega arith
rows-low Wah n h = omega arith

-- a word cut behind k rows has these as before
pub rows-kept : (x y k j : ℕ) → y ≡ x % 2 ^ k → j < k → is_set y j ≡ is_set x j
unfolding is_set bit_at
rows-kept x y k j e h = ap (λ (z : ℕ). is_set z j) e ∙ ap (λ (z : ℕ). eqb z 1) (bit_below x j k h)

module _ (F : Format) (R : ℕ) (b : List ℕ) where
  abbrev w : ℕ
  w = width F

  abbrev pos : 0 < width F
  pos = width-pos F

  -- the cursor stands at a segment o, before which there are all rows but `left`
  pub record At (c : Cursor) (left : ℕ) : Type 0 where
    pub o : ℕ
    pub ahead : Ahead F b o (pieces_from F b c)
    pub in_order : InOrder F b c
    pub at-end : left_of c.piece ≡ 0 → pieces_from F b c ≡ []
    pub done : min R (o * width F) + left ≡ R

  module _ (few : R ≤ most_rows) (facts : SoundFacts F R b) where
    pub at-start : (c : Cursor) → Stands F b c (pieces_of F b) → At c R
    at-start c s = record {
      o = 0;
      ahead = rw s.has (ahead-start F b (facts-some F R b facts));
      in_order = s.in_order;
      at-end = λ z. s.has ∙ s.at-end z;
      done = omega arith;
    }

    module _ {c : Cursor} {left : ℕ} (t : At c left) (more : left ≡ 0 → ⊥) where
      -- all rows before o are done
      pub behind : t.o * width F + left ≡ R
      behind = omega (arith, t.done)

      inside : t.o < length (segments_of F b)
      inside = omega (arith, facts-count F R b facts, starts-below w pos R t.o (omega (arith, behind)))

      -- the piece has a segment, and no more than are to come
      pub piece-some : 1 ≤ left_of c.piece
      piece-some = left-some F b t.o c t.ahead t.at-end inside

      piece-size : first_size (pieces_from F b c) ≡ left_of c.piece
      piece-size = first-left F b c piece-some

      piece-within : t.o + left_of c.piece ≤ segment_count (width F) R
      piece-within =
          omega (
            arith,
            facts-count F R b facts,
            piece-size,
            ahead_within F b t.o (pieces_from F b c) t.ahead (omega (arith, inside)),
          )

      -- its rows are counted in a word
      pub piece-low : left_of c.piece * width F < 2 ^ 32
      piece-low = rows-low F (left_of c.piece) (omega (arith, piece-within, segments-most F R few))

      -- so many of them are to come, and there is one
      pub rows-some : 1 ≤ min (left_of c.piece * width F) left
      rows-some = omega (arith, mul-le-mul_right w piece-some, one-mul w, pos)

      -- they can be taken
      pub piece-gives : Gives c.piece (min (left_of c.piece * width F) left)
      piece-gives = go c.piece t.in_order.value_low
        where
          go : (p : code.Piece) → ValueLow p → Gives p (min (left_of p * width F) left)
          go (Clean v n) h = h
          go (Dirty x) h = omega (arith, width-le F)

      -- and they are these
      pub piece-rows : (j : ℕ) → j < min (left_of c.piece * width F) left
          → rows_of F b (t.o * width F + j) ≡ row_in c.piece j
      unfolding rows_of is_set bit_at
      piece-rows j h =
          let e : t.o * w + j ≡ (t.o + j / w) * w + j % w = omega (arith, add-mul t.o (j / w) w, div-add-mod' j w) in
          let l : j / w < left_of c.piece = (div-lt_iff_lt-mul pos).1 (omega arith) in
          ap (rows_of F b) e
          ∙ has-at w pos (segments_of F b) (t.o + j / w) (j % w) (mod-lt j pos)
          ∙ ap (λ (x : ℕ). is_set x (j % w)) (piece-word F b t.o c t.ahead (j / w) l)
          ∙ go c.piece t.in_order.value_low (omega arith)
        where
          go : (p : code.Piece) → ValueLow p → j < left_of p * w → is_set (word_of F p) (j % w) ≡ row_in p j
          go (Clean v n) low k = fill-row w v (j % w) low (mod-lt j pos)
          go (Dirty x) low k = ap (λ (i : ℕ). is_set x i) (mod-eq_of_lt (omega (arith, one-mul w)))

      -- behind the piece
      pub at_next : (r : Cursor) → Stands F b r (advanced (left_of c.piece) (pieces_from F b c))
          → At r (left - min (left_of c.piece * width F) left)
      at_next r s = record {
        o = t.o + left_of c.piece;
        ahead = rw s.has (ahead-on F b t.o _ (pieces_from F b c) t.ahead piece-some (omega (arith, piece-size)));
        in_order = s.in_order;
        at-end = λ z. s.has ∙ s.at-end z;
        done = omega (arith, behind, add-mul t.o (left_of c.piece) w);
      }
