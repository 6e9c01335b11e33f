-- Plain words: their faults, and the body that is written of them.
-- Assumes nothing.
use Prim.Native.Nat.{ℕ, ◌-◌, ◌^◌, ◌≤◌, ◌<◌}
use mathlib.Core.Bool.{Bool, true, false, not}
use mathlib.Core.Path.{◌≡◌, refl, sym, ap, ◌∙◌}
use mathlib.Core.List.{List}
use native.Mathlib.Omega.{arith}
use borrow.Author.Tests.{lt-ltb, le-ltb, ltb-false, eq-eqb, ne_eqb, eqb-true, lt-leb, leb-false, not-false}
use lib.Dec.{eqb, leb, ltb}
use lib.ListN.{length, get_or}
use lib.Pow.{pow_pos}
use Rattle.meaning.specs.Limits.{most_rows}
use Rattle.meaning.specs.Segment.{kinds, segment_count, last_rows, last_limit, last_of, has_row}
use Rattle.meaning.specs.Refusal.{refused, sound, refuse_if, ◌then◌}
use Rattle.meaning.specs.Canonical.{ewah_of}
use Rattle.meaning.specs.Format.{canonical}
use Rattle.meaning.specs.declared.Format.TheVariants.{Ewah}
use Rattle.laws.specs.Demands.{Words, PlainRows}
use Rattle.meaning.specs.Answer.{rows_fault, plain_fault}
use Rattle.laws.proofs.RowWords.{rows-decide, last-get_d}
use Rattle.laws.proofs.Segments.{encoded, canonical-is}
use Rattle.laws.proofs.Encoded.{none_last}
use Rattle.laws.proofs.Outcomes.{refuse-answer, then-answer}

module _ (R : ℕ) (plain : List ℕ) where
  pub plain_over : most_rows < R → refused 3 0 1 ≡ plain_fault R plain
  unfolding plain_fault rows_fault ◌then◌ refuse_if
  plain_over h = rw (lt-ltb most_rows R h)

  module _ (few : R ≤ most_rows) (n : ℕ) (is : n ≡ segment_count 32 R) where
    pub plain-count : (length plain ≡ n → ⊥) → refused 8 0 0 ≡ plain_fault R plain
    unfolding plain_fault rows_fault ◌then◌ refuse_if
    plain-count h = rw (le-ltb most_rows R few, ne_eqb (length plain) (segment_count 32 R) (λ e. h (e ∙ sym is)))

    module _ (same : length plain ≡ n) where
      counted : plain_fault R plain ≡ refuse_if (leb (last_limit 32 R) (last_of plain)) 7 0 (length plain - 1) sound
      unfolding plain_fault rows_fault ◌then◌ refuse_if
      counted = rw (le-ltb most_rows R few, eq-eqb (length plain) (segment_count 32 R) (same ∙ is))

      pub plain-none-left : n ≡ 0 → sound ≡ plain_fault R plain
      unfolding refuse_if last_limit
      plain-none-left z = sym (counted ∙ rw (none_last plain (same ∙ z), lt-leb (2 ^ last_rows 32 R) 0 (pow_pos (last_rows 32 R))))

      -- the last plain word; t is whether it sets a pad bit
      module _ (some : n ≡ 0 → ⊥) (t : Bool) (pad : t ≡ leb (last_limit 32 R) (get_or plain (n - 1) 0)) where
        tested : plain_fault R plain ≡ refuse_if t 7 0 (length plain - 1) sound
        tested =
            counted
            ∙ rw (last-get_d plain (n - 1) (omega arith), ← pad)

        pub plain-pad : t ≡ true → refused 7 0 (n - 1) ≡ plain_fault R plain
        unfolding refuse_if
        plain-pad e = sym (tested ∙ rw (e, same))

        pub plain-fine : t ≡ false → sound ≡ plain_fault R plain
        unfolding refuse_if
        plain-fine e = sym (tested ∙ rw e)

  pub plain_rows : Words plain → plain_fault R plain ≡ sound → PlainRows R plain
  unfolding plain_fault rows_fault
  plain_rows w e =
      let p = then-answer (rows_fault R) _ tt e in
      let q = refuse-answer (ltb most_rows R) 3 0 1 sound tt p.0 in
      let a = refuse-answer (not (eqb (length plain) (segment_count 32 R))) 8 0 0 _ tt p.1 in
      let b = refuse-answer (leb (last_limit 32 R) (last_of plain)) 7 0 (length plain - 1) sound tt a.1 in
      record {
        few = ltb-false most_rows R q.0;
        words = w;
        count = eqb-true (length plain) (segment_count 32 R) (not-false (eqb (length plain) (segment_count 32 R)) a.0);
        pads = leb-false (last_limit 32 R) (last_of plain) b.0;
      }

  -- valid plain words are the segments of their rows, as EWAH has them
  pub canonical-plain : PlainRows R plain → canonical Ewah R (has_row 32 plain) ≡ ewah_of (kinds 32 R plain)
  canonical-plain g =
      let p = has_row 32 plain in
      let same = rows-decide 32 (omega arith) R p plain g.count g.words g.pads (λ r h. refl) in
      canonical-is R p ∙ ap (encoded R) (sym same) ∙ (unfold encoded in refl)
