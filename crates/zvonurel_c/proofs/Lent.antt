-- Where a bitmap's body lies within its index.
-- Assumes nothing.
use Prim.Native.Nat.{ℕ, ◌<◌}
use mathlib.Core.Path.{◌≡◌, refl, sym, ap, ◌∙◌}
use mathlib.Core.List.{List, []}
use native.Mathlib.Omega.{arith}
use Rattle.std.specs.Result.{IsErrAnd}
use Rattle.meaning.specs.Refusal.{Verdict, refused, answer, sound, ◌then◌}
use Rattle.meaning.specs.Index.{bitmap_count, start_of, length_of, body_at}
use Rattle.meaning.specs.Answer.{bitmap, bitmap_refusal}
use Rattle.laws.specs.Laws.{HeadFacts}
use Rattle.laws.proofs.BitmapPart.{part-laws}
use Rattle.laws.proofs.Outcomes.{then-sound}
use Rattle.std.specs.Prelude.{Result, Ok, Err}
use Rattle.answers.specs.declared.refusal.Refusal.{Refusal}
use Rattle.answers.specs.Told.{refused_by, outcome_of}
use Rattle.answers.proofs.Checks.{sound-is, refused-is}
use Rattle.replies.specs.declared.reply.ZvPart.{ZvPart}
use Rattle.replies.specs.declared.reply.Place.{Place}
use Rattle.replies.specs.Exported.{number_in, bitmap_in, word_in, if_answered, part_code, part_reply, told, Lends}
use Rattle.contents.proofs.Places.{body-within}
use Rattle.laws.proofs.Numbered.{number_of, bitmap-refusal}
use Rattle.replies.proofs.Codes.{told-refused}

-- what the two places of the contents are read under
pub there : (c : Result (Unit {0}) Refusal) (index : List ℕ) (k : ℕ) → outcome_of c ≡ bitmap_refusal index k → c ≡ Ok tt → HeadFacts index × (k < bitmap_count index)
there c index k e h = let f = part-laws.known index k (sound-is c _ e h) in (f.facts.head, f.below)

module _ (index : List ℕ) (k : ℕ) where
  refused-part : (n b w : ℕ) → bitmap_refusal index k ≡ refused n b w → bitmap index k ≡ refused n b w
  unfolding bitmap ◌then◌
  refused-part n b w e = rw e

  -- a refused bitmap has no part: it is told at word 0, with no words
  none-told : (r : Refusal) → bitmap_refusal index k ≡ refused_by r → part_reply (Err r) ≡ part_code index k
  unfolding part_reply number_in bitmap_in word_in if_answered
  none-told r e = rw e refl

  pub stopped-place : (c : Result (Unit {0}) Refusal) (r : Result Place Refusal) (x : Refusal) → outcome_of c ≡ bitmap_refusal index k → c ≡ Err x
      → IsErrAnd r (λ y. y ≡ x) → part_reply r ≡ part_code index k
  stopped-place c (Ok p) x e h g = elim g [ ]
  stopped-place c (Err y) x e h g = none-told y (refused-is c (bitmap_refusal index k) e x h ∙ sym (ap refused_by g))

  pub place-told : (s l : ℕ) → bitmap_refusal index k ≡ sound → s ≡ start_of index k → l ≡ length_of index k
      → part_reply (Ok (record { start = s; length = l })) ≡ part_code index k
  unfolding part_reply number_in bitmap_in word_in if_answered
  place-told s l e p q = rw (e, p, q) refl

  none-lent : (n b w : ℕ) (r : ZvPart) → bitmap_refusal index k ≡ refused n b w → r ≡ part_code index k → Lends index k r
  unfolding number_in bitmap_in word_in if_answered
  none-lent n b w r e f =
      rw f
      (record {
        code = refl;
        tells = rw e (told-refused n b w [] (number_of _ n b w (rw e at (bitmap-refusal index k))) ∙ sym (refused-part n b w e));
        within = rw e (omega arith);
        part = rw e (sym (part-laws.none index k n b w e));
      })

  sound-part : bitmap_refusal index k ≡ sound → answer (body_at index k) ≡ bitmap index k
  unfolding bitmap
  sound-part e = sym (then-sound (bitmap_refusal index k) (answer (body_at index k)) e)

  part-lent : (r : ZvPart) → bitmap_refusal index k ≡ sound → r ≡ part_code index k → Lends index k r
  unfolding number_in bitmap_in word_in if_answered told body_at
  part-lent r e f =
      let h = part-laws.known index k e in
      rw f
      (record {
        code = refl;
        tells = rw e (sound-part e);
        within = rw e (body-within index k h.facts.entries h.below);
        part = rw e (sym h.part);
      })

  by-verdict : (v : Verdict) (r : ZvPart) → bitmap_refusal index k ≡ v → r ≡ part_code index k → Lends index k r
  by-verdict (refused n b w) r e f = none-lent n b w r e f
  by-verdict (answer u) r e f = part-lent r e f

  -- what is told of a bitmap's place lends its part
  pub lends : (r : ZvPart) → r ≡ part_code index k → Lends index k r
  lends r f = by-verdict (bitmap_refusal index k) r refl f
