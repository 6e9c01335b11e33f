-- The engine's loop: what holds where it has passed o segments, and at its end.
-- Assumes nothing.
use Prim.Native.Nat.{ℕ, ◌+◌, ◌-◌, ◌^◌, ◌≤◌}
use mathlib.Core.Bool.{Bool, true}
use mathlib.Core.Path.{◌≡◌, refl, sym, ap, ◌∙◌, subst}
use mathlib.Core.List.{List, [], ◌++◌}
use native.Mathlib.Omega.{arith}
use lib.ListN.{length, take, drop, length-take}
use Rattle.meaning.specs.Rows.{count_below, sum_below}
use Rattle.meaning.specs.Segment.{Segment, segment_count, all_set, rows_in}
use Rattle.meaning.specs.Format.{width, words_of}
use Rattle.meaning.specs.declared.Format.{Format}
use Rattle.meaning.specs.Index.{format_of, row_count}
use Rattle.meaning.specs.Question.{ends_at, stretches}
use Rattle.laws.specs.Ahead.{answer_segments}
use Rattle.laws.proofs.Evaluated.{answer-length, answer-canonical}
use Rattle.laws.proofs.Counting.{count-le}
use Rattle.ewah_write.specs.declared.writer.Writer.{Writer}
use Rattle.body_write.specs.Bodies.{Stands, Growing, RoomFor, Emitted, UpTo}
use Rattle.body_write.proofs.UpTo.{up_none, up-growing, up_room, up_more, up-used, up-all}
use Rattle.ewah.specs.declared.cursor.Cursor.{Cursor}
use Rattle.walk.specs.declared.survey.Survey.{Survey}
use Rattle.walk.specs.Surveys.{MovedAll}
use Rattle.merge.specs.declared.evaluate.Operation.{Operation}
use Rattle.merge.specs.declared.evaluate.Part.{Part}
use Rattle.merge.specs.Operations.{chosen}
use Rattle.merge.specs.Parts.{Evaluated, PartLow, part_segments}
use Rattle.merge.specs.Merges.{bodies_of, answer_body, MergedTo}
use Rattle.merge.proofs.Along.{Along, NextStretch, along-more}

-- the answer's segments
abbrev segments_of : (index list : List ℕ) → Operation → (table : List ℕ) → List Segment
segments_of index list op table =
    answer_segments (format_of index) (row_count index) (chosen op table) (bodies_of index list)

-- the cursors are on their way at segment o, the writer has put the answer's first o segments, and so many stretches
-- ended there
pub record Merging (index list : List ℕ) (op : Operation) (table old : List ℕ) (store : Bool)
    (out : List ℕ) (cs : List Cursor) (s : Survey) (w : Writer) (o steps : ℕ) : Type 0 where
  pub along : Along index list cs s o
  pub counted : steps ≡ count_below o (ends_at (format_of index) (bodies_of index list))
  pub up : UpTo (format_of index) (row_count index) (segments_of index list op table) store old out w o
  pub same : length out ≡ length old

module _ {index list : List ℕ} {op : Operation} {table old : List ℕ} {store : Bool} where
  pub merging-none : {cs : List Cursor} {s : Survey} {w : Writer} → Along index list cs s 0 → Stands (format_of index) w []
      → Merging index list op table old store old cs s w 0 0
  unfolding count_below sum_below
  merging-none {w} a t = record {
    along = a;
    counted = refl;
    up = up_none (row_count index) (segments_of index list op table) store old t;
    same = refl;
  }

  module _ {out : List ℕ} {cs : List Cursor} {s : Survey} {w : Writer} {o steps : ℕ}
      (g : Merging index list op table old store out cs s w o steps) where
    abbrev F : Format
    F = format_of index

    abbrev R : ℕ
    R = row_count index

    abbrev bodies : List (List ℕ)
    bodies = bodies_of index list

    abbrev T : List Segment
    T = segments_of index list op table

    long : length T ≡ segment_count (width F) R
    long = answer-length F R (chosen op table) bodies

    body_is : words_of F R T ≡ answer_body index list op table
    unfolding answer_body
    body_is = sym (answer-canonical F R (chosen op table) bodies)

    -- how many stretches there were
    pub steps_low : steps ≤ o
    steps_low = omega (arith, g.counted, count-le o (ends_at F bodies))

    -- ---- one stretch more
    module _ (n : NextStretch index list cs s o)
        {mask : ℕ} (m : mask ≡ all_set (rows_in (width (format_of index)) (row_count index) (o + s.least - 1)))
        {p : Part} (e : Evaluated (format_of index) op table s mask p) where
      abbrev part : List Segment
      part = part_segments F p

      part-is : part ≡ take s.least (drop o T)
      part-is = e.segments R o bodies n.is m

      -- its part can be put, by a writer of the index's format
      pub may-emit : {f : Format} → f ≡ format_of index
          → (store ≡ true → length (answer_body index list op table) ≤ length old)
          → Growing f w (length (part_segments f p))
          × (PartLow f p × (store ≡ true → RoomFor f (part_segments f p) w (length out)))
      may-emit {f} is h = subst May (sym is) (growing, (e.low n.is.some n.clean-low, room))
        where
          May : Format → Type 0
          May f =
              Growing f w (length (part_segments f p))
              × (PartLow f p × (store ≡ true → RoomFor f (part_segments f p) w (length out)))

          growing : Growing F w (length part)
          growing =
              up-growing g.up (length part)
              (omega (arith, n.few, ap length part-is, length-take s.least (drop o T)))

          room : store ≡ true → RoomFor F part w (length out)
          room t =
              up_room g.up s.least n.few part part-is (length out)
              (omega (arith, h t, g.same, ap length body_is))

      pub merging-more : {f : Format} → f ≡ format_of index → {out' : List ℕ} {v : Writer}
          → ((real : ℕ) → mask ≡ 2 ^ real - 1 → Emitted f real out out' w (part_segments f p) store v)
          → length out' ≡ length out
          → {cs' : List Cursor} {s' : Survey} → MovedAll (format_of index) index list cs s.least cs' s'
          → Merging index list op table old store out' cs' s' v (o + s.least) (steps + 1)
      unfolding all_set
      merging-more {f} is {out'} {v} put same' mv = record {
        along = along-more g.along n mv;
        counted = omega (arith, g.counted, n.is.next);
        up = up_more g.up s.least n.few part part-is n.is.some n.is.within em;
        same = same' ∙ g.same;
      }
        where
          real : ℕ
          real = rows_in (width F) R (o + s.least - 1)

          em : Emitted F real out out' w part store v
          em = subst (λ (G : Format). Emitted G real out out' w (part_segments G p) store v) is (put real m)

    -- ---- the end
    module _ (l : segment_count (width (format_of index)) (row_count index) ≤ o) where
      end : o ≡ segment_count (width F) R
      end = omega (arith, g.along.here)

      pub merging-all : MergedTo index list op table old store out (record { words = w.used; stretches = steps })
      unfolding stretches
      merging-all = record {
        words_are = up-used g.up long end ∙ ap length body_is;
        stretches-are = g.counted ∙ ap (λ (k : ℕ). count_below k (ends_at F bodies)) end;
        stored = λ t. subst (λ (b : List ℕ). out ≡ b ++ drop (length b) old) body_is (up-all g.up long end t);
        kept = g.up.kept;
      }
