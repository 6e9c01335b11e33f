-- One batch, whatever state and buffer are lent: what is known where it is accepted, and what is left afterwards.
-- Assumes nothing.
use Prim.Native.Nat.{ℕ, ◌+◌, ◌≤◌, ◌<◌}
use mathlib.Core.Bool.{false}
use mathlib.Core.Path.{◌≡◌, refl, sym, ap, ap₂, ◌∙◌, subst}
use mathlib.Core.List.{List, ◌++◌}
use lib.Dec.{ltb}
use lib.ListN.{length, drop, take-append-drop, length-append, length-drop}
use lib.Seq.{length-take-le, take_at}
use native.Mathlib.Omega.{arith}
use borrow.Author.Tests.{ltb-false}
use Rattle.meaning.specs.Limits.{most_rows}
use Rattle.meaning.specs.Segment.{has_row}
use Rattle.meaning.specs.Refusal.{Outcome, refused, answer, refuse_if, ◌then◌}
use Rattle.meaning.specs.Format.{rows_of, Canonical, canonical}
use Rattle.meaning.specs.declared.Format.TheVariants.{Ewah}
use Rattle.meaning.specs.Answer.{plain_fault, fits, write, buffer_after}
use Rattle.laws.specs.Demands.{BodyOf}
use Rattle.laws.proofs.Outcomes.{refuse-answer, then-answer, fits-answer, fits-within}
use Rattle.laws.proofs.Formats.{canonical-body, canonical-ext, canonical-form}
use Rattle.laws.proofs.Lengthen.{never-shorter}
use Rattle.batches.specs.declared.AppendState.{AppendState}
use Rattle.batches.specs.Append.{in_use, mismatched, Batch, rows_with, append, state_after, Kept, outcome_of, after_batch, is_accepted}
use Rattle.batches.specs.AppendLaws.{Matches, Grown}
use Rattle.batches.proofs.Following.{follow-old, matches}

-- ---- a batch that is accepted

pub record Taken (s : AppendState) (buffer : List ℕ) (b : Batch) (words : List ℕ) : Type 0 where
  pub belongs : Matches s buffer
  pub few : s.rows + b.rows ≤ most_rows
  pub is : words ≡ canonical Ewah (s.rows + b.rows) (rows_with s buffer b)
  pub fits : length words ≤ length buffer

pub used-words : (s : AppendState) (buffer : List ℕ) → Matches s buffer → length (in_use s buffer) ≡ s.words
used-words s buffer m = length-take-le s.words buffer m.inside

-- words laid over a buffer's front leave its length
pub laid-length : (words old : List ℕ) → length words ≤ length old → length (words ++ drop (length words) old) ≡ length old
laid-length words old f = omega (arith, length-append words (drop (length words) old), length-drop (length words) old)

-- a canonical body that is laid there belongs to a state of its rows and words
pub laid-match : (room : ℕ) {R : ℕ} (words old : List ℕ) → length old ≡ room → R ≤ most_rows → length words ≤ length old
    → Canonical Ewah R words
    → Matches (record { room = room; rows = R; words = length words }) (words ++ drop (length words) old)
laid-match room {R} words old e few f c =
    let whole = laid-length words old f in
    record {
      room = whole ∙ e;
      few = few;
      inside = omega (arith, whole);
      form = subst (λ (w : List ℕ). Canonical Ewah R w) (sym (take_at words (drop (length words) old) (length words) refl)) c;
    }

module _ (s : AppendState) (buffer : List ℕ) (b : Batch) where
  abbrev R : ℕ
  R = s.rows + b.rows

  abbrev C : List ℕ
  C = canonical Ewah R (rows_with s buffer b)

  pub taken-batch : (words : List ℕ) → append s buffer b ≡ answer words → Taken s buffer b words
  unfolding append write
  taken-batch words e =
      let rest = plain_fault b.rows b.plain then fits (length buffer) C in
      let x = refuse-answer (mismatched s buffer) 12 0 0 (refuse_if (ltb most_rows R) 3 0 1 rest) words e in
      let y = refuse-answer (ltb most_rows R) 3 0 1 rest words x.1 in
      let z = then-answer (plain_fault b.rows b.plain) (fits (length buffer) C) words y.1 in
      let w : words ≡ C = fits-answer (length buffer) C words z.1 in
      record {
        belongs = matches s buffer x.0;
        few = ltb-false most_rows R y.0;
        is = w;
        fits = omega (arith, ap length w, fits-within (length buffer) C words z.1);
      }

  -- the rows so far are among them
  old-rows : (r : ℕ) → r < s.rows → rows_of Ewah (in_use s buffer) r ≡ rows_with s buffer b r
  old-rows r h = sym (follow-old s.rows (rows_of Ewah (in_use s buffer)) (has_row 32 b.plain) r h)

  pub accepted : (words : List ℕ) → append s buffer b ≡ answer words → Grown s buffer b words
  unfolding state_after buffer_after
  accepted words e =
      let t = taken-batch words e in
      let m = t.belongs in
      let p = rows_with s buffer b in
      let form : Canonical Ewah R words = subst (λ (w : List ℕ). Canonical Ewah R w) (sym t.is) (canonical-form Ewah R p) in
      let grows = never-shorter s.rows b.rows (rows_of Ewah (in_use s buffer)) p old-rows in
      record {
        belongs = m;
        few = t.few;
        fits = t.fits;
        form = form;
        right = subst (λ (w : List ℕ). BodyOf Ewah R p w) (sym t.is) (canonical-body Ewah R p);
        no-shorter = omega (arith, ap length t.is, ap length m.form, used-words s buffer m);
        still = laid-match s.room words buffer m.room t.few t.fits form;
      }

  -- of no rows: the words are those in use
  taken_none : (words : List ℕ) → b.rows ≡ 0 → append s buffer b ≡ answer words → words ≡ in_use s buffer
  taken_none words z e =
      let t = taken-batch words e in
      let n : s.rows + b.rows ≡ s.rows = omega arith in
      t.is
      ∙ ap (λ (k : ℕ). canonical Ewah k (rows_with s buffer b)) n
      ∙ sym (canonical-ext Ewah s.rows (rows_of Ewah (in_use s buffer)) (rows_with s buffer b) old-rows)
      ∙ sym t.belongs.form

-- ---- what is left after one batch

abbrev pub kept_with : (room rows words : ℕ) (buffer : List ℕ) → Kept
kept_with room rows words buffer = record { state = record { room = room; rows = rows; words = words }; buffer = buffer }

module _ (k : Kept) (b : Batch) where
  -- by its outcome
  abbrev pub left_by : Outcome (List ℕ) → Kept
  left_by o = record { state = state_after o k.state b.rows; buffer = buffer_after o k.buffer }

  pub left_by_lem : (o : Outcome (List ℕ)) → outcome_of k b ≡ o → after_batch k b ≡ left_by o
  unfolding after_batch
  left_by_lem o e = ap left_by e

  pub refused-keeps : (number bitmap word : ℕ) → outcome_of k b ≡ refused number bitmap word → after_batch k b ≡ k
  unfolding state_after buffer_after
  refused-keeps number bitmap word e = left_by_lem (refused number bitmap word) e

  -- refused or accepted
  pub by-outcome : {A : Type 0} → (is_accepted (outcome_of k b) ≡ false → after_batch k b ≡ k → A)
      → ((words : List ℕ) → outcome_of k b ≡ answer words → A) → A
  by-outcome {A} f g = go (outcome_of k b) refl
    where
      go : (o : Outcome (List ℕ)) → outcome_of k b ≡ o → A
      go (refused number bitmap word) e = f (ap is_accepted e ∙ unfold is_accepted in refl) (refused-keeps number bitmap word e)
      go (answer words) e = g words e

  pub none-keeps : b.rows ≡ 0 → after_batch k b ≡ k
  unfolding state_after buffer_after
  none-keeps z = by-outcome (λ f e. e) same
    where
      same : (words : List ℕ) → outcome_of k b ≡ answer words → after_batch k b ≡ k
      same words e =
          let s = k.state in
          let m : Matches k.state k.buffer = (taken-batch k.state k.buffer b words e).belongs in
          let n : k.state.rows + b.rows ≡ k.state.rows = omega arith in
          left_by_lem (answer words) e
          ∙ ap₂ (λ (a : ℕ) (l : List ℕ). kept_with s.room a (length l) (l ++ drop (length l) k.buffer)) n (taken_none s k.buffer b words z e)
          ∙ ap (λ (a : ℕ). kept_with s.room s.rows a (in_use s k.buffer ++ drop a k.buffer)) (used-words s k.buffer m)
          ∙ ap (kept_with s.room s.rows s.words) (take-append-drop s.words k.buffer)

  -- the body is no shorter afterwards
  pub batch-grows : k.state.words ≤ (after_batch k b).state.words
  unfolding state_after
  batch-grows = by-outcome
      (λ f e. omega (arith, ap (λ (z : Kept). z.state.words) e))
      (λ words e. omega (
        arith,
        ap (λ (z : Kept). z.state.words) (left_by_lem (answer words) e),
        (accepted k.state k.buffer b words e).no-shorter,
      ))
