-- A batch: where its writer stands in the buffer, what it is answered, and the state afterwards.
-- Assumes nothing.
use Prim.Native.Nat.{ℕ, zero, suc, ◌+◌, ◌≤◌, ◌<◌}
use mathlib.Core.Bool.{Bool}
use mathlib.Core.Path.{◌≡◌, refl, sym, ap, ◌∙◌, subst}
use mathlib.Core.List.{List, [], ◌∷◌}
use native.Mathlib.Omega.{arith}
use borrow.Author.Tests.{lt-ltb, le-ltb}
use lib.Dec.{ltb}
use lib.ListN.{length, take, set, length-take}
use lib.Seq.{take-take}
use Rattle.meaning.specs.Limits.{most_rows}
use Rattle.meaning.specs.Segment.{has_row}
use Rattle.meaning.specs.Refusal.{Outcome, refused, ◌then◌}
use Rattle.meaning.specs.Ewah.{ewah_fault}
use Rattle.meaning.specs.Format.{rows_of, Sound, Canonical}
use Rattle.meaning.specs.declared.Format.TheVariants.{Ewah}
use Rattle.meaning.specs.Answer.{plain_fault, write, words_reported}
use Rattle.laws.proofs.Formats.{canonical-body}
use Rattle.laws.proofs.Outcomes.{refuse-no, refuse-yes}
use Rattle.answers.specs.declared.refusal.Refusal.{Refusal}
use Rattle.std.specs.Prelude.{Result, Ok, Err}
use Rattle.answers.specs.Told.{refused_by, written_of, words_of, Wrote}
use Rattle.answers.proofs.Checks.{refused-not-sound}
use Rattle.batches.specs.declared.AppendState.{AppendState}
use Rattle.batches.specs.Append.{Batch, followed, in_use, append, state_after}
use Rattle.batches.proofs.OneBatch.{taken-batch}
use Rattle.resume.specs.declared.Place.{Place}
use Rattle.std.specs.Prelude.{Option, None, Some}
use Rattle.resume.specs.Resume.{restored, PlaceOf, ResumedIs}
use Rattle.appending.specs.Batched.{behind, FoundIs}

-- ---- the writer found again

-- a body that the check refuses is not in canonical form
pub faulty : (R : ℕ) (b : List ℕ) (r : Refusal) → ewah_fault 0 0 R b ≡ refused_by r → Canonical Ewah R b → ⊥
faulty R b r e c =
    refused-not-sound r e (subst (λ (w : List ℕ). Sound Ewah R w) (sym c) (canonical-body Ewah R (rows_of Ewah b)).is_sound)

-- a word that is stored past the first n is in neither list
take-set : (n : ℕ) (l : List ℕ) (i x : ℕ) → take n (set l i x) ≡ set (take n l) i x
take-set zero l i x = refl
take-set (suc n) [] i x = refl
take-set (suc n) (y ∷ ys) zero x = refl
take-set (suc n) (y ∷ ys) (suc i) x = ap (λ (r : List ℕ). y ∷ r) (take-set n ys i x)

-- a place in the first n words of a buffer is one in the buffer
in_buffer : {R : ℕ} {p : ℕ → Bool} {r : Place} (n : ℕ) (out : List ℕ) → PlaceOf R p (take n out) r → PlaceOf R p out r
in_buffer {r = r} n out g =
    let w = r.writer in
    let low : w.used ≤ n = omega (arith, g.inside, length-take n out) in
    record {
      tracks = g.tracks;
      inside = omega (arith, g.inside, length-take n out);
      words = sym (take-take w.used n (restored out w) low) ∙ ap (take w.used) (take-set n out w.at _) ∙ g.words;
      part-is = g.part-is;
    }

-- the three tests on numbers passed, and the words in use were walked
pub found : (s : AppendState) (out : List ℕ) → length out ≡ s.room → s.rows ≤ most_rows → s.words ≤ length out
    → (r : Option Place) → ResumedIs s.rows (in_use s out) r → FoundIs s out r
found s out same few inside None h = λ m. h m.form
found s out same few inside (Some r) h =
    (record { room = same; few = few; inside = inside; form = h.0 }, in_buffer s.words out h.1)

-- ---- the answer

-- 3 is of all rows together
module _ (R : ℕ) (p : ℕ → Bool) (b : Batch) (room : ℕ) where
  pub over : most_rows < R + b.rows → refused 3 0 1 ≡ behind R p b room
  over h = sym (refuse-yes (ltb most_rows (R + b.rows)) 3 0 1 _ (lt-ltb most_rows (R + b.rows) h))

  pub within : R + b.rows ≤ most_rows
      → behind R p b room ≡ (plain_fault b.rows b.plain then write Ewah (R + b.rows) (followed R p (has_row 32 b.plain)) room)
  within h = refuse-no (ltb most_rows (R + b.rows)) 3 0 1 _ (le-ltb most_rows (R + b.rows) h)

-- ---- the state afterwards, where the answer is k and the buffer `out'`

module _ (s : AppendState) (b : Batch) {out : List ℕ} (k : Result ℕ Refusal) {out' : List ℕ} (w : Wrote (append s out b) k out out') where
  module _ (z : Result ℕ Refusal) (e : k ≡ z) where
    told_is : Wrote (append s out b) z out out'
    told_is = subst (λ (v : Result ℕ Refusal). Wrote (append s out b) v out out') e w

    state-is : state_after (written_of z out') s b.rows ≡ state_after (append s out b) s b.rows
    state-is = ap (λ (o : Outcome (List ℕ)). state_after o s b.rows) told_is.told

  -- all rows together are within the limit
  pub few-rows : (n : ℕ) → k ≡ Ok n → s.rows + b.rows ≤ most_rows
  unfolding written_of
  few-rows n e = (taken-batch s out b (take n out') (sym (told_is (Ok n) e).told)).few

  -- a refusal leaves the state
  pub state-stays : (x : Refusal) → k ≡ Err x → s ≡ state_after (append s out b) s b.rows
  unfolding state_after written_of
  state-stays x e = state-is (Err x) e

  -- the state with the batch's rows, and with the words of the longer body
  pub state-moves : (n : ℕ) → k ≡ Ok n → record { room = s.room; rows = s.rows + b.rows; words = n } ≡ state_after (append s out b) s b.rows
  unfolding state_after written_of words_of words_reported
  state-moves n e =
      let t = told_is (Ok n) e in
      let long : n ≡ length (take n out') = t.words ∙ sym (ap words_reported t.told) in
      ap (λ (m : ℕ). record { room = s.room; rows = s.rows + b.rows; words = m }) long ∙ state-is (Ok n) e
