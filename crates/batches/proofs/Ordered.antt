-- The order in which a batch is refused: 12, 3, 8, 7 and 9; that there are no other numbers; and a writer's first batch.
-- Assumes nothing.
use Prim.Native.Nat.{ℕ, ◌+◌, ◌-◌, ◌≤◌, ◌<◌}
use mathlib.Core.Bool.{Bool, true, false, not}
use mathlib.Core.Path.{◌≡◌, refl, sym, ap, ◌∙◌, subst}
use mathlib.Core.List.{List, []}
use lib.Dec.{eqb, leb, ltb}
use lib.ListN.{length}
use native.Mathlib.Omega.{arith}
use borrow.Author.Tests.{lt-ltb, le-ltb, le-leb, lt-leb, eq-eqb, ne_eqb}
use Rattle.meaning.specs.Limits.{most_rows}
use Rattle.meaning.specs.Segment.{has_row, segment_count, last_limit, last_of}
use Rattle.meaning.specs.Refusal.{Outcome, refused, answer, Verdict, sound, refuse_if, ◌then◌}
use Rattle.meaning.specs.Format.{rows_of, canonical}
use Rattle.meaning.specs.declared.Format.TheVariants.{Ewah}
use Rattle.meaning.specs.Question.{is_in}
use Rattle.meaning.specs.Answer.{rows_fault, plain_fault, fits, write, compress}
use Rattle.laws.proofs.Outcomes.{refuse-no, refuse-yes, then-sound, then-refused, fits-yes, fits-no}
use Rattle.laws.proofs.Formats.{canonical-ext, canonical-none}
use Rattle.batches.specs.declared.AppendState.{AppendState}
use Rattle.batches.specs.Append.{begun, mismatched, Batch, rows_with, append}
use Rattle.batches.specs.AppendLaws.{BatchNumbered, Matches, body_with, Admitted, BatchOrder, numbers_given}
use Rattle.batches.proofs.Following.{follow-none, matches, not-mismatched}

-- ---- the numbers that an outcome may be refused with

-- a refusal's number has P
abbrev Given : {A : Type 0} → (ℕ → Type 0) → Outcome A → Type 0
Given P (refused number bitmap word) = P number
Given P (answer a) = Unit {0}

module _ {A : Type 0} (P : ℕ → Type 0) where
  refuse : (t : Bool) (n b w : ℕ) (o : Outcome A) → P n → Given P o → Given P (refuse_if t n b w o)
  unfolding refuse_if
  refuse true n b w o h k = h
  refuse false n b w o h k = k

  after : (v : Verdict) (o : Outcome A) → Given P v → Given P o → Given P (v then o)
  unfolding ◌then◌
  after (refused n b w) o h k = h
  after (answer u) o h k = k

  number_is : (o : Outcome A) (n b w : ℕ) → Given P o → o ≡ refused n b w → P n
  number_is o n b w h e = subst (Given P) e h

-- the number alone says so
abbrev IsNumber : ℕ → Type 0
IsNumber n = BatchNumbered {A = ℕ} (refused n 0 0)

as-numbered : {A : Type 0} (o : Outcome A) → Given IsNumber o → BatchNumbered o
unfolding BatchNumbered
as-numbered (refused number bitmap word) h = h
as-numbered (answer a) h = tt

-- ---- the faults of plain words, where their rows are few enough

module _ (R : ℕ) (plain : List ℕ) where
  abbrev wrong_count : Bool
  wrong_count = not (eqb (length plain) (segment_count 32 R))

  abbrev pad_set : Bool
  pad_set = leb (last_limit 32 R) (last_of plain)

  plain-given : (P : ℕ → Type 0) → P 3 → P 8 → P 7 → Given P (plain_fault R plain)
  unfolding plain_fault rows_fault
  plain-given P h3 h8 h7 =
      after P (rows_fault R) _ (refuse P (ltb most_rows R) 3 0 1 sound h3 tt)
      (refuse P wrong_count 8 0 0 _ h8 (refuse P pad_set 7 0 (length plain - 1) sound h7 tt))

  module _ (few : R ≤ most_rows) where
    two-left : plain_fault R plain ≡ refuse_if wrong_count 8 0 0 (refuse_if pad_set 7 0 (length plain - 1) sound)
    unfolding plain_fault rows_fault
    two-left = then-sound (rows_fault R) _ (refuse-no (ltb most_rows R) 3 0 1 sound (le-ltb most_rows R few))

    count-wrong : (length plain ≡ segment_count 32 R → ⊥) → plain_fault R plain ≡ refused 8 0 0
    count-wrong h = two-left ∙ refuse-yes wrong_count 8 0 0 _ (ap not (ne_eqb (length plain) (segment_count 32 R) h))

    module _ (n : length plain ≡ segment_count 32 R) where
      one_left : plain_fault R plain ≡ refuse_if pad_set 7 0 (length plain - 1) sound
      one_left = two-left ∙ refuse-no wrong_count 8 0 0 _ (ap not (eq-eqb (length plain) (segment_count 32 R) n))

      pad-set : last_limit 32 R ≤ last_of plain → plain_fault R plain ≡ refused 7 0 (length plain - 1)
      pad-set h = one_left ∙ refuse-yes pad_set 7 0 _ sound (le-leb (last_limit 32 R) (last_of plain) h)

      no-fault : last_of plain < last_limit 32 R → plain_fault R plain ≡ sound
      no-fault h = one_left ∙ refuse-no pad_set 7 0 _ sound (lt-leb (last_limit 32 R) (last_of plain) h)

-- ---- a batch

module _ (s : AppendState) (buffer : List ℕ) (b : Batch) where
  abbrev R : ℕ
  R = s.rows + b.rows

  -- the body, or 9
  abbrev written : Outcome (List ℕ)
  written = write Ewah R (rows_with s buffer b) (length buffer)

  -- what is left after 12
  abbrev past_twelve : Outcome (List ℕ)
  past_twelve = refuse_if (ltb most_rows R) 3 0 1 (plain_fault b.rows b.plain then written)

  pub no-match : (Matches s buffer → ⊥) → append s buffer b ≡ refused 12 0 0
  unfolding append
  no-match h = refuse-yes (mismatched s buffer) 12 0 0 _ (is-mismatched (mismatched s buffer) refl)
    where
      is-mismatched : (t : Bool) → mismatched s buffer ≡ t → mismatched s buffer ≡ true
      is-mismatched true e = e
      is-mismatched false e = absurd (h (matches s buffer e))

  pub is-match : Matches s buffer → append s buffer b ≡ past_twelve
  unfolding append
  is-match m = refuse-no (mismatched s buffer) 12 0 0 _ (not-mismatched s buffer m)

  rest-given : (P : ℕ → Type 0) → P 3 → P 8 → P 7 → P 9 → Given P past_twelve
  unfolding write fits
  rest-given P h3 h8 h7 h9 =
      refuse P (ltb most_rows R) 3 0 1 _ h3
      (after P (plain_fault b.rows b.plain) _ (plain-given b.rows b.plain P h3 h8 h7)
      (refuse P (ltb (length buffer) (length (body_with s buffer b))) 9 0 _ (answer (body_with s buffer b)) h9 tt))

  all-given : (P : ℕ → Type 0) → P 12 → P 3 → P 8 → P 7 → P 9 → Given P (append s buffer b)
  unfolding append
  all-given P h12 h3 h8 h7 h9 = refuse P (mismatched s buffer) 12 0 0 _ h12 (rest-given P h3 h8 h7 h9)

  pub numbered : BatchNumbered (append s buffer b)
  unfolding BatchNumbered
  numbered =
      as-numbered (append s buffer b)
      (all-given IsNumber (omega arith, omega arith) (omega arith, omega arith) (omega arith, omega arith) (omega arith, omega arith)
      (omega arith, omega arith))

  pub only : (number bitmap word : ℕ) → append s buffer b ≡ refused number bitmap word → is_in numbers_given number ≡ true
  unfolding is_in
  only number bitmap word e =
      number_is (λ n. is_in numbers_given n ≡ true) (append s buffer b) number bitmap word
      (all-given (λ n. is_in numbers_given n ≡ true) refl refl refl refl refl) e

  -- a state and a buffer that match are never refused with 12
  never-twelve : append s buffer b ≡ refused 12 0 0 → Matches s buffer → ⊥
  never-twelve e m =
      let low : 12 ≤ 11 = number_is (λ n. n ≤ 11) past_twelve 12 0 0
      (rest-given (λ n. n ≤ 11) (omega arith) (omega arith) (omega arith) (omega arith)) (sym (is-match m) ∙ e) in
      omega arith

  -- past 12 and 3
  module _ (a : Admitted s buffer b) where
    few : b.rows ≤ most_rows
    few = omega (arith, a.few)

    plain-left : append s buffer b ≡ (plain_fault b.rows b.plain then written)
    plain-left = is-match a.belongs ∙ refuse-no (ltb most_rows R) 3 0 1 _ (le-ltb most_rows R a.few)

    faulty : (number word : ℕ) → plain_fault b.rows b.plain ≡ refused number 0 word → append s buffer b ≡ refused number 0 word
    faulty number word e = plain-left ∙ then-refused (plain_fault b.rows b.plain) written number 0 word e

    write-left : length b.plain ≡ segment_count 32 b.rows → last_of b.plain < last_limit 32 b.rows
        → append s buffer b ≡ fits (length buffer) (body_with s buffer b)
    unfolding write
    write-left n l =
        plain-left ∙ then-sound (plain_fault b.rows b.plain) written (no-fault b.rows b.plain few n l)

  pub order : BatchOrder s buffer b
  order = record {
    twelve = (never-twelve, no-match);
    three = λ m h. is-match m ∙ refuse-yes (ltb most_rows R) 3 0 1 _ (lt-ltb most_rows R (omega (arith, h)));
    eight = λ a h. faulty a 8 0 (count-wrong b.rows b.plain (few a) h);
    seven = λ a n h. faulty a 7 (length b.plain - 1) (pad-set b.rows b.plain (few a) (omega (arith, n)) (omega (arith, h)));
    nine = λ a n l h. write-left a n (omega (arith, l)) ∙ fits-no (length buffer) (body_with s buffer b) (omega (arith, h));
    taken = λ a n l h. write-left a n (omega (arith, l)) ∙ fits-yes (length buffer) (body_with s buffer b) (omega (arith, h));
  }

-- ---- a writer's first batch

pub begun-matches : (buffer : List ℕ) → Matches (begun buffer) buffer
begun-matches buffer = record {
  room = refl;
  few = omega arith;
  inside = omega arith;
  form = sym (canonical-none Ewah (rows_of Ewah []));
}

-- 3 is given by the one test as by the other
three-once : (t : Bool) (v : Verdict) (o : Outcome (List ℕ))
    → refuse_if t 3 0 1 ((refuse_if t 3 0 1 sound then v) then o) ≡ ((refuse_if t 3 0 1 sound then v) then o)
unfolding refuse_if ◌then◌
three-once true v o = refl
three-once false v o = refl

pub first-is-compress : (buffer : List ℕ) (b : Batch) → append (begun buffer) buffer b ≡ compress Ewah b.rows b.plain (length buffer)
unfolding compress plain_fault rows_fault write
first-is-compress buffer b =
    let p = rows_with (begun buffer) buffer b in
    let n : 0 + b.rows ≡ b.rows = omega arith in
    let left : ℕ → Outcome (List ℕ) = λ R. plain_fault b.rows b.plain then fits (length buffer) (canonical Ewah R p) in
    is-match (begun buffer) buffer b (begun-matches buffer)
    ∙ ap (λ (R : ℕ). refuse_if (ltb most_rows R) 3 0 1 (left R)) n
    ∙ three-once (ltb most_rows b.rows) _ _
    ∙ ap (λ (c : List ℕ). plain_fault b.rows b.plain then fits (length buffer) c)
    (canonical-ext Ewah b.rows p (has_row 32 b.plain) (λ r h. follow-none (rows_of Ewah []) (has_row 32 b.plain) r))
