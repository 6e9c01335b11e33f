-- `AppendLaws` holds: what a writer that takes batches has after each of them, whatever the cutting.
-- Assumes nothing.
use Prim.Native.Nat.{ℕ, ◌+◌, ◌-◌, ◌≤◌, ◌<◌}
use mathlib.Core.Bool.{Bool, false, cond}
use mathlib.Core.Path.{◌≡◌, refl, sym, ap, ap₂, ◌∙◌, subst}
use mathlib.Core.List.{List, [], ◌∷◌, ◌++◌}
use lib.ListN.{length, drop, take-append-drop}
use lib.Seq.{take_at, drop-drop, drop-append-add}
use native.Mathlib.Omega.{arith}
use Rattle.meaning.specs.Limits.{most_rows}
use Rattle.meaning.specs.Segment.{has_row}
use Rattle.meaning.specs.Refusal.{Outcome, answer}
use Rattle.meaning.specs.Format.{rows_of, Canonical, canonical}
use Rattle.meaning.specs.declared.Format.TheVariants.{Ewah}
use Rattle.meaning.specs.Answer.{compress, buffer_after}
use Rattle.laws.specs.Demands.{PlainRows, BodyOf}
use Rattle.laws.proofs.Formats.{canonical-body, canonical-rows, canonical-ext, canonical-form}
use Rattle.laws.proofs.Lengthen.{never-shorter}
use Rattle.laws.proofs.Demanded.{demand2}
use Rattle.batches.specs.declared.AppendState.{AppendState}
use Rattle.batches.specs.Append.{in_use, Batch, followed, rows_with, state_after, Kept, start_on, outcome_of, after_batch, after_all, is_accepted, accepted_of, all_rows, rows_across}
use Rattle.batches.specs.AppendLaws.{Matches, body_with, kept_words, kept_rows, NoneRefused, AllPlain, Holds, AppendLaws}
use Rattle.batches.proofs.Following.{follow-old, follow-ext, follow-none, follow-assoc, tests-canonical, not-canonical, matches, not-mismatched}
use Rattle.batches.proofs.Ordered.{order, only, numbered, begun-matches, first-is-compress}
use Rattle.batches.proofs.OneBatch.{used-words, laid-length, laid-match, taken-batch, accepted, kept_with, left_by_lem, refused-keeps, by-outcome, none-keeps, batch-grows}

-- ---- a chain never gets shorter

chain-grows : (k : Kept) (bs : List Batch) → k.state.words ≤ (after_all k bs).state.words
chain-grows k [] = omega arith
chain-grows k (b ∷ bs) = omega (arith, batch-grows k b, chain-grows (after_batch k b) bs)

-- ---- which batches of a chain are accepted

module _ (k : Kept) (b : Batch) (bs : List Batch) where
  leave-out : is_accepted (outcome_of k b) ≡ false → accepted_of k (b ∷ bs) ≡ accepted_of (after_batch k b) bs
  unfolding accepted_of
  leave-out e = ap (λ (t : Bool). cond t (b ∷ accepted_of (after_batch k b) bs) (accepted_of (after_batch k b) bs)) e

  take_in : (words : List ℕ) → outcome_of k b ≡ answer words → accepted_of k (b ∷ bs) ≡ b ∷ accepted_of (after_batch k b) bs
  unfolding accepted_of is_accepted
  take_in words e = ap (λ (o : Outcome (List ℕ)). cond (is_accepted o) (b ∷ accepted_of (after_batch k b) bs) (accepted_of (after_batch k b) bs)) e

none-left-out : (k : Kept) (bs : List Batch) → NoneRefused k bs → accepted_of k bs ≡ bs
none-left-out k [] n = unfold accepted_of in refl
none-left-out k (b ∷ bs) n = take_in k b bs n.0.0 n.0.1 ∙ ap (λ (l : List Batch). b ∷ l) (none-left-out (after_batch k b) bs n.1)

-- ---- what is kept is the canonical body of its rows

abbrev kept_as : (old : List ℕ) (R : ℕ) (C : List ℕ) → Kept
kept_as old R C = kept_with (length old) R (length C) (C ++ drop (length C) old)

kept-used : (old : List ℕ) (R : ℕ) (C : List ℕ) {k : Kept} → k ≡ kept_as old R C → kept_words k ≡ C
kept-used old R C q = ap kept_words q ∙ take_at C (drop (length C) old) (length C) refl

kept-is : {old : List ℕ} {k : Kept} {R : ℕ} {p : ℕ → Bool} → Holds old k R p → k ≡ kept_as old R (canonical Ewah R p)
kept-is h = ap₂ (λ (s : AppendState) (l : List ℕ). record { state = s; buffer = l }) h.state-is h.buffer-is

holds_as : (old : List ℕ) (R : ℕ) (p : ℕ → Bool) (C : List ℕ) (k : Kept) → R ≤ most_rows → length C ≤ length old
    → C ≡ canonical Ewah R p → k ≡ kept_as old R C → Holds old k R p
holds_as old R p C k few roomy is e =
    subst (λ (c : List ℕ). length c ≤ length old → k ≡ kept_as old R c → Holds old k R p) (sym is) made roomy e
  where
    made : length (canonical Ewah R p) ≤ length old → k ≡ kept_as old R (canonical Ewah R p) → Holds old k R p
    made f q = record {
      few = few;
      fits = f;
      state-is = ap (λ (z : Kept). z.state) q;
      buffer-is = ap (λ (z : Kept). z.buffer) q;
      form = subst (λ (c : List ℕ). Canonical Ewah R c) (sym (kept-used old R (canonical Ewah R p) q)) (canonical-form Ewah R p);
      right = subst (λ (c : List ℕ). BodyOf Ewah R p c) (sym (kept-used old R (canonical Ewah R p) q)) (canonical-body Ewah R p);
    }

-- of the same rows
holds-ext : (old : List ℕ) (k : Kept) (R S : ℕ) (p q : ℕ → Bool) → Holds old k R p → R ≡ S
    → ((r : ℕ) → r < R → p r ≡ q r) → Holds old k S q
holds-ext old k R S p q h e g =
    subst (λ (n : ℕ). Holds old k n q) e
    (holds_as old R q (canonical Ewah R p) k h.few h.fits (canonical-ext Ewah R p q g) (kept-is h))

-- what is in use, where state and buffer belong together
held : (k : Kept) → Matches k.state k.buffer → Holds k.buffer k k.state.rows (kept_rows k)
held k m =
    let s = k.state in
    let u = in_use s k.buffer in
    let n : length u ≡ s.words = used-words s k.buffer m in
    holds_as k.buffer s.rows (rows_of Ewah u) u k m.few (omega (arith, n, m.inside)) m.form
    (ap₂ (λ (a : ℕ) (l : List ℕ). kept_with a s.rows s.words l) (sym m.room) (sym (take-append-drop s.words k.buffer))
    ∙ ap (λ (a : ℕ). kept_with (length k.buffer) s.rows a (u ++ drop a k.buffer)) (sym n))

-- ---- one batch more

module _ (old : List ℕ) (R : ℕ) (p : ℕ → Bool) (few : R ≤ most_rows) (roomy : length (canonical Ewah R p) ≤ length old) where
  abbrev C : List ℕ
  C = canonical Ewah R p

  abbrev K : Kept
  K = kept_as old R C

  whole : length K.buffer ≡ length old
  whole = laid-length C old roomy

  kept-matches : Matches K.state K.buffer
  kept-matches = laid-match (length old) C old refl few roomy (canonical-form Ewah R p)

  module _ (b : Batch) where
    abbrev q : ℕ → Bool
    q = followed R p (has_row 32 b.plain)

    rows_are : (r : ℕ) → rows_with K.state K.buffer b r ≡ q r
    rows_are r =
        ap (λ (c : List ℕ). followed R (rows_of Ewah c) (has_row 32 b.plain) r) (kept-used old R C refl)
        ∙ follow-ext R (rows_of Ewah C) p (has_row 32 b.plain) (canonical-rows Ewah R p) r

    body_is : canonical Ewah (R + b.rows) (rows_with K.state K.buffer b) ≡ canonical Ewah (R + b.rows) q
    body_is = canonical-ext Ewah (R + b.rows) (rows_with K.state K.buffer b) q (λ r h. rows_are r)

    longer : length C ≤ length (canonical Ewah (R + b.rows) q)
    longer = never-shorter R b.rows p q (λ r h. sym (follow-old R p (has_row 32 b.plain) r h))

    -- what lies behind the longer body lay behind the shorter one
    behind : (words : List ℕ) → length C ≤ length words → drop (length words) (C ++ drop (length C) old) ≡ drop (length words) old
    behind words h =
        let e : length C + (length words - length C) ≡ length words = omega arith in
        let a = drop-append-add C (drop (length C) old) (length words - length C) in
        let c = drop-drop (length words - length C) (length C) old in
        rw e at (a ∙ c)

    stepped : (words : List ℕ) → outcome_of K b ≡ answer words → Holds old (after_batch K b) (R + b.rows) q
    unfolding state_after buffer_after
    stepped words e =
        let t = taken-batch K.state K.buffer b words e in
        let l : length C ≤ length words = omega (arith, longer, ap length (t.is ∙ body_is)) in
        let left : after_batch K b ≡ kept_as old (R + b.rows) words =
        left_by_lem K b (answer words) e ∙ ap (λ (d : List ℕ). kept_with (length old) (R + b.rows) (length words) (words ++ d)) (behind words l) in
        holds_as old (R + b.rows) q words (after_batch K b) t.few (omega (arith, t.fits, whole)) (t.is ∙ body_is) left

    -- valid rows whose body fits are accepted
    taken-on : PlainRows b.rows b.plain → R + b.rows ≤ most_rows → length (canonical Ewah (R + b.rows) q) ≤ length old
        → (words : List ℕ) × (outcome_of K b ≡ answer words)
    taken-on v l f =
        let words = body_with K.state K.buffer b in (
          words,
          (order K.state K.buffer b).taken (record { belongs = kept-matches; few = l }) v.count v.pads
              (omega (arith, whole, ap length body_is)),
        )

-- on anything kept that holds
pub held-step : (old : List ℕ) (k : Kept) (R : ℕ) (p : ℕ → Bool) (b : Batch) (words : List ℕ) → Holds old k R p → outcome_of k b ≡ answer words
    → Holds old (after_batch k b) (R + b.rows) (followed R p (has_row 32 b.plain))
held-step old k R p b words h e =
    let s = kept-is h in
    subst (λ (z : Kept). Holds old (after_batch z b) (R + b.rows) (followed R p (has_row 32 b.plain))) (sym s)
    (stepped old R p h.few h.fits b words (sym (ap (λ (z : Kept). outcome_of z b) s) ∙ e))

-- ---- batch after batch

-- the rows p, and behind them those of the batches
abbrev HoldsWith : (old : List ℕ) (k : Kept) (R : ℕ) (p : ℕ → Bool) → List Batch → Type 0
HoldsWith old k R p bs = Holds old k (R + all_rows bs) (followed R p (rows_across bs))

holds-none : (old : List ℕ) (k : Kept) (R : ℕ) (p : ℕ → Bool) → Holds old k R p → HoldsWith old k R p []
unfolding all_rows
holds-none old k R p h =
    holds-ext old k R (R + 0) p (followed R p (rows_across [])) h (omega arith) (λ r l. sym (follow-old R p (rows_across []) r l))

holds_more : (old : List ℕ) (k : Kept) (R : ℕ) (p : ℕ → Bool) (b : Batch) (bs : List Batch)
    → HoldsWith old k (R + b.rows) (followed R p (has_row 32 b.plain)) bs → HoldsWith old k R p (b ∷ bs)
unfolding all_rows rows_across
holds_more old k R p b bs h =
    holds-ext old k (R + b.rows + all_rows bs) (R + (b.rows + all_rows bs))
    (followed (R + b.rows) (followed R p (has_row 32 b.plain)) (rows_across bs)) (followed R p (rows_across (b ∷ bs))) h (omega arith)
    (λ r l. follow-assoc R b.rows p (has_row 32 b.plain) (rows_across bs) r)

along : (old : List ℕ) (bs : List Batch) (k : Kept) (R : ℕ) (p : ℕ → Bool) → Holds old k R p → HoldsWith old (after_all k bs) R p (accepted_of k bs)
along old [] k R p h = unfold accepted_of in holds-none old k R p h
along old (b ∷ bs) k R p h =
    let q : ℕ → Bool = followed R p (has_row 32 b.plain) in
    let last = after_all k (b ∷ bs) in
    by-outcome k b
    (λ f e. subst (HoldsWith old last R p) (sym (leave-out k b bs f))
    (along old bs (after_batch k b) R p (subst (λ (z : Kept). Holds old z R p) (sym e) h)))
    (λ words e. subst (HoldsWith old last R p) (sym (take_in k b bs words e))
    (holds_more old last R p b (accepted_of (after_batch k b) bs)
    (along old bs (after_batch k b) (R + b.rows) q (held-step old k R p b words h e))))

from-any : (k : Kept) (bs : List Batch) → Matches k.state k.buffer
    → HoldsWith k.buffer (after_all k bs) k.state.rows (kept_rows k) (accepted_of k bs)
from-any k bs m = along k.buffer bs k k.state.rows (kept_rows k) (held k m)

any-chain : (buffer : List ℕ) (bs : List Batch)
    → Holds buffer (after_all (start_on buffer) bs) (all_rows (accepted_of (start_on buffer) bs)) (rows_across (accepted_of (start_on buffer) bs))
any-chain buffer bs =
    let none : ℕ → Bool = rows_of Ewah [] in
    let cs = accepted_of (start_on buffer) bs in
    holds-ext buffer (after_all (start_on buffer) bs) (0 + all_rows cs) (all_rows cs) (followed 0 none (rows_across cs)) (rows_across cs)
    (from-any (start_on buffer) bs (begun-matches buffer)) (omega arith) (λ r h. follow-none none (rows_across cs) r)

-- the words in use are the body of the rows held
words_are : {old : List ℕ} {k : Kept} {R : ℕ} {p : ℕ → Bool} → Holds old k R p → kept_words k ≡ canonical Ewah R p
words_are {old = old} {R = R} {p = p} h = kept-used old R (canonical Ewah R p) (kept-is h)

as-compressed : (buffer : List ℕ) (bs : List Batch) (plain : List ℕ) → PlainRows (all_rows (accepted_of (start_on buffer) bs)) plain
    → ((r : ℕ) → r < all_rows (accepted_of (start_on buffer) bs) → has_row 32 plain r ≡ rows_across (accepted_of (start_on buffer) bs) r)
    → compress Ewah (all_rows (accepted_of (start_on buffer) bs)) plain (length buffer) ≡ answer (kept_words (after_all (start_on buffer) bs))
as-compressed buffer bs plain v g =
    let cs = accepted_of (start_on buffer) bs in
    let h = any-chain buffer bs in
    let same : canonical Ewah (all_rows cs) (has_row 32 plain) ≡ canonical Ewah (all_rows cs) (rows_across cs) =
    canonical-ext Ewah (all_rows cs) (has_row 32 plain) (rows_across cs) g in
    demand2.write-fits Ewah (all_rows cs) plain (length buffer) v (omega (arith, ap length same, h.fits))
    ∙ ap answer (same ∙ sym (words_are h))

-- where none is refused
whole-chain : (buffer : List ℕ) (bs : List Batch) → NoneRefused (start_on buffer) bs
    → Holds buffer (after_all (start_on buffer) bs) (all_rows bs) (rows_across bs)
whole-chain buffer bs n =
    subst (λ (l : List Batch). Holds buffer (after_all (start_on buffer) bs) (all_rows l) (rows_across l)) (none-left-out (start_on buffer) bs n)
    (any-chain buffer bs)

same_body : (buffer : List ℕ) (bs cs : List Batch) → NoneRefused (start_on buffer) bs → NoneRefused (start_on buffer) cs
    → all_rows bs ≡ all_rows cs → ((r : ℕ) → r < all_rows bs → rows_across bs r ≡ rows_across cs r)
    → after_all (start_on buffer) bs ≡ after_all (start_on buffer) cs
same_body buffer bs cs n m e g =
    kept-is (whole-chain buffer bs n)
    ∙ ap (λ (c : List ℕ). kept_as buffer (all_rows bs) c) (canonical-ext Ewah (all_rows bs) (rows_across bs) (rows_across cs) g)
    ∙ ap (λ (t : ℕ). kept_as buffer t (canonical Ewah t (rows_across cs))) e
    ∙ sym (kept-is (whole-chain buffer cs m))

same-words : (x y : List ℕ) (bs cs : List Batch) → NoneRefused (start_on x) bs → NoneRefused (start_on y) cs
    → all_rows bs ≡ all_rows cs → ((r : ℕ) → r < all_rows bs → rows_across bs r ≡ rows_across cs r)
    → kept_words (after_all (start_on x) bs) ≡ kept_words (after_all (start_on y) cs)
same-words x y bs cs n m e g =
    words_are (whole-chain x bs n)
    ∙ canonical-ext Ewah (all_rows bs) (rows_across bs) (rows_across cs) g
    ∙ ap (λ (t : ℕ). canonical Ewah t (rows_across cs)) e
    ∙ sym (words_are (whole-chain y cs m))

-- ---- valid rows whose body fits

all-taken : (old : List ℕ) (bs : List Batch) (k : Kept) (R : ℕ) (p : ℕ → Bool) → Holds old k R p → AllPlain bs → R + all_rows bs ≤ most_rows
    → length (canonical Ewah (R + all_rows bs) (followed R p (rows_across bs))) ≤ length old → NoneRefused k bs
unfolding all_rows rows_across
all-taken old [] k R p h v l f = tt
all-taken old (b ∷ bs) k R p h v l f =
    let q : ℕ → Bool = followed R p (has_row 32 b.plain) in
    let all : ℕ → Bool = followed (R + b.rows) q (rows_across bs) in
    let n : R + b.rows + all_rows bs ≡ R + (b.rows + all_rows bs) = omega arith in
    let same = canonical-ext Ewah (R + b.rows + all_rows bs) all (followed R p (rows_across (b ∷ bs)))
    (λ r h. follow-assoc R b.rows p (has_row 32 b.plain) (rows_across bs) r) in
    let g : length (canonical Ewah (R + b.rows + all_rows bs) all) ≤ length old = rw (same, n) f in
    let short = never-shorter (R + b.rows) (all_rows bs) q all (λ r h. sym (follow-old (R + b.rows) q (rows_across bs) r h)) in
    let s = kept-is h in
    let t = taken-on old R p h.few h.fits b v.0 (omega arith) (omega arith) in
    let u : outcome_of k b ≡ answer t.0 = ap (λ (z : Kept). outcome_of z b) s ∙ t.1 in
    ((t.0, u), all-taken old bs (after_batch k b) (R + b.rows) q (held-step old k R p b t.0 h u) v.1 (omega arith) g)

all-accepted : (k : Kept) (bs : List Batch) → Matches k.state k.buffer → AllPlain bs → k.state.rows + all_rows bs ≤ most_rows
    → length (canonical Ewah (k.state.rows + all_rows bs) (followed k.state.rows (kept_rows k) (rows_across bs))) ≤ length k.buffer
    → NoneRefused k bs
all-accepted k bs m v l f = all-taken k.buffer bs k k.state.rows (kept_rows k) (held k m) v l f

none-refused : (buffer : List ℕ) (bs : List Batch) → AllPlain bs → all_rows bs ≤ most_rows
    → length (canonical Ewah (all_rows bs) (rows_across bs)) ≤ length buffer → NoneRefused (start_on buffer) bs
none-refused buffer bs v l f =
    let none : ℕ → Bool = rows_of Ewah [] in
    let e : canonical Ewah (all_rows bs) (followed 0 none (rows_across bs)) ≡ canonical Ewah (all_rows bs) (rows_across bs) =
    canonical-ext Ewah (all_rows bs) (followed 0 none (rows_across bs)) (rows_across bs) (λ r h. follow-none none (rows_across bs) r) in
    let n : 0 + all_rows bs ≡ all_rows bs = omega arith in
    all-accepted (start_on buffer) bs (begun-matches buffer) v (omega arith) (rw (n, e) f)

-- what is said of numbers is asked of `omega`, so that another statement is judged by what it says
pub append-laws : AppendLaws
append-laws = record {
  tests-canonical = tests-canonical;
  not-canonical = not-canonical;
  belongs = λ s buffer. (matches s buffer, not-mismatched s buffer);
  order = order;
  only = only;
  first-is-compress = first-is-compress;
  accepted = accepted;
  refused-keeps = refused-keeps;
  none-keeps = none-keeps;
  never-shorter = λ k bs. omega (arith, chain-grows k bs);
  from-any = from-any;
  any-chain = any-chain;
  as-compressed = as-compressed;
  none-left-out = none-left-out;
  same_body = λ buffer bs cs n m e g. same_body buffer bs cs n m (omega (arith, e)) g;
  same-words = λ x y bs cs n m e g. same-words x y bs cs n m (omega (arith, e)) g;
  all-accepted = λ k bs m v l f. all-accepted k bs m v (omega (arith, l)) (omega (arith, f));
  none-refused = λ buffer bs v l f. none-refused buffer bs v (omega (arith, l)) (omega (arith, f));
  numbered = numbered;
}
