-- From where a row's segment is written to the answer on the row, in either format.
-- Assumes nothing.
use Prim.Native.Nat.{ℕ, ◌+◌, ◌-◌, ◌*◌, ◌/◌, ◌%◌, ◌≤◌, ◌<◌}
use mathlib.Core.Bool.{Bool}
use mathlib.Core.Path.{◌≡◌, ap, ap₂, ◌∙◌}
use mathlib.Core.List.{List}
use lib.ListN.{length}
use native.Mathlib.Omega.{arith}
use native.Mathlib.Nat.{mul-le-mul_right, div-lt_iff_lt-mul, div-mul-le_self}
use Rattle.meaning.specs.Limits.{most_rows, most_segments, word_bits}
use Rattle.meaning.specs.Segment.{is_set, has_row, segment_count}
use Rattle.meaning.specs.Format.{width, pieces_of, segments_of, rows_of}
use Rattle.meaning.specs.declared.Format.{Format}
use Rattle.meaning.specs.declared.Row.{Row}
use Rattle.meaning.specs.Extent.{Span, span_at, extent_of, answer_with, row_answer}
use Rattle.laws.specs.Laws.{SoundFacts}
use Rattle.laws.proofs.Spans.{span_of, own-within}
use Rattle.laws.proofs.Formats.{width-pos, width-le, spells, facts-count, segments-most}
use Rattle.extent.specs.Place.{PlaceOf}
use Rattle.extent.specs.declared.Place.{Place}

module _ (F : Format) (R : ℕ) (b : List ℕ) (r : ℕ) (p : Place) (at : PlaceOf (segments_of F b) (pieces_of F b) (r / width F) p) where
  -- what `extent::row` asks for
  pub row-asked : R ≤ most_rows → SoundFacts F R b → r < R → (1 ≤ R) × (R ≤ most_rows) × (p.from + p.size ≤ most_segments)
      × (1 ≤ (p.from + p.size) * width F) × ((p.from + p.size) * width F < R + word_bits)
  unfolding segment_count
  row-asked few facts h =
      let w = width F in
      let its = own-within F R b facts r h in
      let span : p.from + p.size ≡ (span_at 0 (pieces_of F b) (r / w)).from + (span_at 0 (pieces_of F b) (r / w)).size =
      ap (λ (x : Span). x.from + x.size) at.span-is in
      let most : p.from + p.size ≤ segment_count w R =
      omega (arith, span, its.ends, ap length (spells F b), facts-count F R b facts) in
      let own : r < (p.from + p.size) * w = (div-lt_iff_lt-mul (width-pos F)).0 (omega (arith, span, its.high)) in (
        omega arith,
        few,
        omega (arith, segments-most F R few),
        omega arith,
        omega (arith, mul-le-mul_right w most, div-mul-le_self (R + (w - 1)) w, width-le F, width-pos F),
      )

  -- what it gives
  pub row_is : (t : Bool) (x : Row) → t ≡ is_set p.word (r % width F)
      → x ≡ answer_with t (extent_of (width F) R (span_of p.from p.size)) → x ≡ row_answer F R b r
  unfolding row_answer rows_of has_row
  row_is t x e f =
      let set = e ∙ ap (λ (y : ℕ). is_set y (r % width F)) at.word-is in
      f ∙ ap₂ (λ (s : Bool) (i : Span). answer_with s (extent_of (width F) R i)) set at.span-is
