-- The part of an answer that a stretch gives.
-- Assumes nothing.
use Prim.Native.Nat.{ℕ, ◌+◌, ◌-◌, ◌%◌, ◌^◌, ◌≤◌, ◌<◌}
use mathlib.Core.Bool.{true, false}
use mathlib.Core.Path.{◌≡◌, sym, ap, ◌∙◌}
use mathlib.Core.List.{List, [], ◌∷◌}
use native.Mathlib.Omega.{arith}
use Rattle.meaning.specs.Segment.{Segment, kind, all_set, rows_in, is_set}
use Rattle.meaning.specs.Format.{width}
use Rattle.meaning.specs.declared.Format.{Format}
use Rattle.laws.proofs.Formats.{width-pos, width-le}
use Rattle.laws.proofs.Cut.{rows-some, rows-le}
use Rattle.laws.proofs.Evaluated.{run-zeros, run-ones, low_word}
use Rattle.counters.specs.Counters.{count_at}
use Rattle.walk.specs.declared.survey.Survey.{Survey}
use Rattle.merge.specs.declared.evaluate.Operation.{Operation}
use Rattle.merge.specs.declared.evaluate.Part.TheVariants.{Run, Word}
use Rattle.merge.specs.Operations.{chosen}
use Rattle.merge.specs.Parts.{Evaluated}

module _ (F : Format) (op : Operation) (table : List ℕ) (s : Survey) (mask : ℕ) where
  -- with a dirty word: y spells the rows of the word x
  pub word-part : (s.dirty ≡ 0 → ⊥)
      → (x : ℕ) → ((j : ℕ) → j < 32 → is_set x j ≡ chosen op table (s.ones + count_at s.planes j))
      → (y : ℕ) → ((real : ℕ) → 1 ≤ real → real ≤ width F → mask ≡ all_set real
      → kind (width F) y ≡ kind real (x % 2 ^ real))
      → Evaluated F op table s mask (Word y)
  word-part d x x-is y y-is = record {
    low = λ g h. tt;
    segments = λ R o bodies t m.
        let here : o + s.least - 1 ≡ o = omega (arith, t.single d) in
        let pos = width-pos F in
        ap (λ (k : Segment). k ∷ [])
        (y-is (rows_in (width F) R o) (rows-some (width F) pos R o (omega (arith, t.some, t.within)))
        (rows-le (width F) pos R o) (rw here at m))
        ∙ sym (low_word F R (chosen op table) bodies o _ _ _ _ t d x (λ j l. x-is j (omega (arith, width-le F))));
  }

  -- with none: its rows are in the answer, all of them or no one
  module _ (z : s.dirty ≡ 0) where
    pub zeros-part : chosen op table s.ones ≡ false → Evaluated F op table s mask (Run 0 s.least)
    zeros-part e = record {
      low = λ g h. (omega arith, g, h);
      segments = λ R o bodies t m. sym (run-zeros F R (chosen op table) bodies o _ _ _ _ t z e);
    }

    pub ones-part : chosen op table s.ones ≡ true → Evaluated F op table s mask (Run 1 s.least)
    ones-part e = record {
      low = λ g h. (omega arith, g, h);
      segments = λ R o bodies t m. sym (run-ones F R (chosen op table) bodies o _ _ _ _ t z e);
    }
