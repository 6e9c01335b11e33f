-- The cursors of a query on their way, o segments from the start: what the survey of their pieces says of the next
-- stretch, and the mask of its last segment.
-- Assumes nothing.
use Prim.Native.Nat.{ℕ, ◌+◌, ◌-◌, ◌≤◌, ◌<◌}
use mathlib.Core.Path.{◌≡◌, ap, ap₂, ◌∙◌}
use mathlib.Core.List.{List}
use native.Mathlib.Omega.{arith}
use lib.ListN.{length, get_or}
use Rattle.meaning.specs.Limits.{most_segments, most_named}
use Rattle.meaning.specs.Segment.{segment_count, rows_in, all_set, bit_at}
use Rattle.meaning.specs.Format.{width, most_run}
use Rattle.meaning.specs.declared.Format.{Format}
use Rattle.meaning.specs.Index.{format_of, row_count}
use Rattle.laws.specs.Laws.{SoundFacts}
use Rattle.laws.specs.Ahead.{StretchAt}
use Rattle.laws.proofs.Formats.{segments-most}
use Rattle.laws.proofs.Sums.{sum-le, sum-add, sum_mono}
use Rattle.ewah.specs.declared.cursor.Piece as code
use Rattle.ewah.specs.declared.cursor.Piece.TheVariants.{Clean, Dirty}
use Rattle.ewah.specs.Cursors.{ValueLow, left_of}
use Rattle.counters.specs.Counters.{count_at}
use Rattle.ewah.specs.declared.cursor.Cursor.{Cursor}
use Rattle.words.specs.declared.frame.Frame.{Frame}
use Rattle.walk.specs.declared.survey.Survey.{Survey}
use Rattle.walk.specs.Queries.{cursor_of, Standing, place_body}
use Rattle.walk.specs.Surveys.{ones_in, dirty_in, bit_in, Surveyed, MovedAll}
use Rattle.merge.specs.Merges.{Walkable, bodies_of}
use Rattle.merge.proofs.Stretched.{stretch, least-low, least-left}

-- the frame is that of the index's rows
pub record Laid (index : List ℕ) (f : Frame) : Type 0 where
  pub format-is : f.format ≡ format_of index
  pub rows_are : f.rows ≡ row_count index

pub laid : {index : List ℕ} {f : Frame} {F : Format} {rows : ℕ} → (f.format ≡ F) × (f.rows ≡ rows) → F ≡ format_of index → rows ≡ row_count index
    → Laid index f
laid told e r = record { format-is = told.0 ∙ e; rows_are = told.1 ∙ r }

module _ {index : List ℕ} {f : Frame} (d : Laid index f) where
  pub laid-total : f.segments ≡ segment_count (width (format_of index)) (row_count index)
  laid-total = f.total ∙ ap₂ (λ (F : Format) (k : ℕ). segment_count (width F) k) d.format-is d.rows_are

  pub laid-full : f.full ≡ all_set (width (format_of index))
  laid-full = f.full_is ∙ ap (λ (F : Format). all_set (width F)) d.format-is

-- ---- the cursors

piece-most : (p : code.Piece) → ValueLow p → ones_in p + dirty_in p ≤ 1
piece-most (Clean v n) h = omega arith
piece-most (Dirty x) h = omega arith

bit-most : (p : code.Piece) (j : ℕ) → bit_in p j ≤ dirty_in p
bit-most (Clean v n) j = omega arith
bit-most (Dirty x) j = unfold bit_at in omega arith

-- every cursor stands at segment o of its body, and s is their survey
pub record Along (index list : List ℕ) (cs : List Cursor) (s : Survey) (o : ℕ) : Type 0 where
  pub here : o ≤ segment_count (width (format_of index)) (row_count index)
  pub standing : Standing (format_of index) index list cs (length list) o
  pub long : length cs ≡ length list
  pub surveyed : Surveyed cs (length list) s

-- all that the body of a loop over stretches needs of the one that comes next
pub record NextStretch (index list : List ℕ) (cs : List Cursor) (s : Survey) (o : ℕ) : Type 0 where
  pub is : StretchAt (format_of index) (row_count index) (bodies_of index list) o s.least s.ones s.dirty
      (count_at s.planes)
  pub few : o + s.least ≤ most_segments
  pub clean-low : s.least ≤ most_run (format_of index)
  pub left-each : (i : ℕ) → i < length list → s.least ≤ left_of (cursor_of cs i).piece
  -- a bitmap counts once: in a run of ones or on a dirty word, and only a dirty word is counted by rows
  pub held_low : s.ones + s.dirty ≤ most_named
  pub counts-low : (j : ℕ) → j < 32 → count_at s.planes j ≤ s.dirty

module _ {index list : List ℕ} {cs : List Cursor} {s : Survey} where
  pub along-none : Standing (format_of index) index list cs (length list) 0 → length cs ≡ length list
      → Surveyed cs (length list) s → Along index list cs s 0
  along-none st n su = record { here = omega arith; standing = st; long = n; surveyed = su }

  module _ {o : ℕ} (g : Along index list cs s o) where
    pub next-stretch : {f : Frame} → Laid index f → Walkable index list → o < f.segments → NextStretch index list cs s o
    next-stretch d w h = record {
      is = its;
      few = omega (arith, its.within, segments-most F R w.facts.head.few-rows);
      clean-low = least-low F index list cs R o s sound g.standing g.surveyed w.some l;
      left-each = least-left F index list cs R o s sound g.standing g.surveyed w.some l;
      held_low =
          omega (
            arith,
            g.surveyed.ones_is,
            g.surveyed.dirty-is,
            w.listed.most,
            sum-add (length list) (λ i. ones_in (piece i)) (λ i. dirty_in (piece i)),
            sum-le (length list) (λ i. ones_in (piece i) + dirty_in (piece i))
                (λ i h. piece-most (piece i) (g.standing i h).in_order.value_low),
          );
      counts-low = λ j h.
          omega (
            arith,
            g.surveyed.counts j h,
            g.surveyed.dirty-is,
            sum_mono (length list) (λ i. bit_in (piece i) j) (λ i. dirty_in (piece i)) (λ i. bit-most (piece i) j),
          );
    }
      where
        F : Format
        F = format_of index

        R : ℕ
        R = row_count index

        piece : ℕ → code.Piece
        piece i = (cursor_of cs i).piece

        sound : (i : ℕ) → i < length list → SoundFacts F R (place_body index list i)
        sound i h = w.facts.bodies (get_or list i 0) (w.listed.its i h)

        l : o < segment_count (width F) R
        l = omega (arith, h, laid-total d)

        its : StretchAt F R (bodies_of index list) o s.least s.ones s.dirty (count_at s.planes)
        its = stretch F index list cs R o s sound g.standing g.surveyed w.some l

    pub along-more : NextStretch index list cs s o → {cs' : List Cursor} {s' : Survey}
        → MovedAll (format_of index) index list cs s.least cs' s' → Along index list cs' s' (o + s.least)
    along-more n mv = record {
      here = n.is.within;
      standing = mv.on o g.standing;
      long = mv.long ∙ g.long;
      surveyed = mv.surveyed;
    }

-- the mask of its last segment
pub mask-of : {index list : List ℕ} {cs : List Cursor} {s : Survey} {o : ℕ} → NextStretch index list cs s o
    → {f : Frame} → Laid index f → {mask : ℕ}
    → (1 ≤ o + s.least → o + s.least ≤ f.segments → mask ≡ all_set (rows_in (width f.format) f.rows (o + s.least - 1)))
    → mask ≡ all_set (rows_in (width (format_of index)) (row_count index) (o + s.least - 1))
mask-of {index} {s = s} {o = o} n d m =
    m (omega (arith, n.is.some)) (omega (arith, n.is.within, laid-total d))
    ∙ ap₂ (λ (F : Format) (k : ℕ). all_set (rows_in (width F) k (o + s.least - 1))) d.format-is d.rows_are
