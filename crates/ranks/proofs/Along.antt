-- A pass over one column: what holds of its cursors where it has passed o segments, and what the next block says.
-- Assumes nothing.
use Prim.Native.Nat.{ℕ, ◌+◌, ◌-◌, ◌*◌, ◌^◌, ◌≤◌, ◌<◌, min}
use mathlib.Core.Bool.{Bool}
use mathlib.Core.Path.{◌≡◌, refl, ap, ap₂, ◌∙◌}
use mathlib.Core.List.{List}
use lib.ListN.{length, replicate}
use native.Mathlib.Nat.{zero-mul}
use native.Mathlib.Omega.{arith}
use Rattle.meaning.specs.Limits.{most_segments, block_words}
use Rattle.meaning.specs.Rows.{sum_below, count_below}
use Rattle.meaning.specs.Segment.{segment_count, all_set, rows_in}
use Rattle.meaning.specs.Format.{width}
use Rattle.meaning.specs.declared.Format.{Format}
use Rattle.words.specs.declared.frame.Frame.{Frame}
use Rattle.meaning.specs.Index.{format_of, row_count}
use Rattle.column_meaning.specs.Columns.{slice_count}
use Rattle.laws.proofs.Formats.{width-pos, segments-most}
use Rattle.laws.proofs.RowWords.{rows_fit}
use Rattle.laws.proofs.Counting.{count-le}
use Rattle.ewah.specs.declared.cursor.Cursor.{Cursor}
use Rattle.walk.specs.Queries.{Standing}
use Rattle.blocks.specs.Blocks.{Placed, Cleared, NextPlaced}
use Rattle.blocks.proofs.Values.{zeros}
use Rattle.blocks.proofs.Walks.{S}
use Rattle.ranks.specs.Frames.{Column}

-- what a frame says, where it is of the index's format and rows
pub record Framed (index : List ℕ) (f : Frame) : Type 0 where
  pub format-is : f.format ≡ format_of index
  pub width_is : f.width ≡ width (format_of index)
  pub total : f.segments ≡ S index
  pub full_is : f.full ≡ all_set (width (format_of index))
  pub mask_is : (mask j : ℕ) → mask ≡ all_set (rows_in (width f.format) f.rows j)
      → mask ≡ all_set (rows_in (width (format_of index)) (row_count index) j)

pub framed : {index : List ℕ} (f : Frame) {F : Format} {R : ℕ} → (f.format ≡ F) × (f.rows ≡ R) → F ≡ format_of index → R ≡ row_count index
    → Framed index f
framed f is p q =
    let format = is.0 ∙ p in
    let rows = is.1 ∙ q in
    record {
      format-is = format;
      width_is = f.width_is ∙ ap (λ (G : Format). width G) format;
      total = f.total ∙ ap₂ (λ (G : Format) (r : ℕ). segment_count (width G) r) format rows;
      full_is = f.full_is ∙ ap (λ (G : Format). all_set (width G)) format;
      mask_is = λ mask j e. e ∙ ap₂ (λ (G : Format) (r : ℕ). all_set (rows_in (width G) r j)) format rows;
    }

-- every place's cursor stands at segment o, and the block has no row but those of the list's places
pub record Along (index list : List ℕ) (at : List Cursor) (x : List ℕ) (o : ℕ) : Type 0 where
  pub here : o ≤ S index
  pub walking : Placed index list at o
  pub cleared : Cleared list x

module _ {index list : List ℕ} (cs : Column index list) where
  -- a pivot has no more digits than the column has slices
  pub pivot-low : {m : ℕ} → m < 2 ^ slice_count list → m < 2 ^ (length list - 1)
  unfolding slice_count
  pivot-low h = h

  pub few : S index ≤ most_segments
  few = segments-most (format_of index) (row_count index) cs.facts.head.few-rows

  pub along-none : {at : List Cursor} → length at ≡ length list → Standing (format_of index) index list at (length list) 0
      → Along index list at (replicate block_words 0) 0
  along-none e st = record {
    here = omega arith;
    walking = record { standing = st; long = omega (arith, e) };
    cleared = record { long = refl; past = λ i h. zeros block_words i };
  }

module _ {index list : List ℕ} {o end n : ℕ} {even : Bool} {at : List Cursor} {x : List ℕ} (nb : NextPlaced index list o end n even at x) where
  pub along-more : end ≤ S index → Along index list at x (o + n)
  along-more h = record { here = omega (arith, nb.within); walking = nb.walking; cleared = nb.cleared }

-- how many rows the first o segments have
abbrev pub rows_before : (index : List ℕ) (o : ℕ) → ℕ
rows_before index o = min (o * width (format_of index)) (row_count index)

pub none_before : (index : List ℕ) (p : ℕ → Bool) → 0 ≡ count_below (rows_before index 0) p
unfolding count_below sum_below
none_before index p =
    let e : rows_before index 0 ≡ 0 = omega (arith, zero-mul (width (format_of index))) in
    rw e

-- at the end these are all
pub all-rows : {index list : List ℕ} {at : List Cursor} {x : List ℕ} {o : ℕ} → Along index list at x o → S index ≤ o → rows_before index o ≡ row_count index
all-rows {index} {o = o} g l =
    let e : o ≡ S index = omega (arith, g.here) in
    rw e (omega (arith, rows_fit (width (format_of index)) (width-pos (format_of index)) (row_count index)))

-- how many of a set are among them fits a number of 32 bits
pub count_fits : {index list : List ℕ} → Column index list → (o : ℕ) (p : ℕ → Bool) → count_below (rows_before index o) p < 4294967296
count_fits {index} cs o p = omega (arith, count-le (rows_before index o) p, cs.facts.head.few-rows)
