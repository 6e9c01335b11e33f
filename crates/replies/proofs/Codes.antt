-- What is returned for an outcome, from what the public call tells; and back: a caller reads the outcome from it.
-- Assumes nothing.
use Prim.Native.Nat.{ℕ, zero, suc, ◌≤◌}
use mathlib.Core.Bool.{Bool, true, false, cond}
use mathlib.Core.Path.{◌≡◌, refl, sym, ap, ◌∙◌, ap₂, subst}
use mathlib.Core.List.{List}
use native.Mathlib.Omega.{arith}
use lib.Dec.{eqb}
use lib.IntN.{ℤ}
use lib.ListN.{length, take, drop}
use lib.Seq.{take-append_seam}
use mir.Val.{bool_byte}
use Rattle.meaning.specs.Refusal.{Outcome, refused, answer, Verdict, Numbered}
use Rattle.meaning.specs.declared.Row.{Row}
use Rattle.meaning.specs.Answer.{buffer_after, words_reported, stretches_reported, histogram_reported}
use Rattle.laws.specs.Demands.{ThresholdDemand}
use Rattle.std.specs.Prelude.{Result, Ok, Err}
use Rattle.answers.specs.declared.refusal.Refusal.{Refusal}
use Rattle.answers.specs.declared.answer.Report.{Report}
use Rattle.answers.specs.Told.{written_of, words_of, answered_of, words_in, stretches_in, Wrote, Reported}
use Rattle.replies.specs.declared.reply.ZvChecked.{ZvChecked}
use Rattle.replies.specs.declared.reply.ZvFlag.{ZvFlag}
use Rattle.replies.specs.declared.reply.ZvNumber.{ZvNumber}
use Rattle.replies.specs.declared.reply.ZvValue.{ZvValue}
use Rattle.replies.specs.declared.reply.ZvSignedValue.{ZvSignedValue}
use Rattle.replies.specs.declared.reply.ZvWritten.{ZvWritten}
use Rattle.replies.specs.declared.reply.ZvAnswered.{ZvAnswered}
use Rattle.replies.specs.declared.reply.ZvHistogram.{ZvHistogram}
use Rattle.replies.specs.Exported.{number_in, bitmap_in, word_in, flag_in, first_in, last_in, value_in, signed_in, checked_code, flag_code, number_code, value_code, signed_code, written_code, answered_code, written_reply, answered_reply, told, verdict_told, flag_told, number_told, value_read, signed_read, written_told, answered_told, Checks, Flags, Numbers, Values, SignedValues, Writes, Reports, Counts, histogram_code, counts_told}
use Rattle.laws.proofs.Numbered.{number_of}

-- ---- reading an outcome

pub told-refused : {A : Type 0} (n b w : ℕ) (a : A) → 1 ≤ n → told n b w a ≡ refused n b w
unfolding told
told-refused zero b w a h = absurd (omega arith)
told-refused (suc n) b w a h = refl

-- it is no refusal with number 0, which would say that there is none
abbrev pub NotZero : {A : Type 0} → Outcome A → Type 0
NotZero o = (n b w : ℕ) → o ≡ refused n b w → 1 ≤ n

-- a value that is the answer's where there is one
told-some : {A : Type 0} (o : Outcome A) (a : A) → NotZero o → ((x : A) → o ≡ answer x → a ≡ x) → told (number_in o) (bitmap_in o) (word_in o) a ≡ o
unfolding told number_in bitmap_in word_in
told-some (refused n b w) a h f = told-refused n b w a (h n b w refl)
told-some (answer x) a h f = ap answer (f x refl)

told_is : {A : Type 0} (o : Outcome A) (a : A) → Numbered o → ((x : A) → o ≡ answer x → a ≡ x) → told (number_in o) (bitmap_in o) (word_in o) a ≡ o
told_is {A = A} o a h f = told-some o a (λ n b w e. number_of A n b w (subst Numbered e h)) f

pub checks : (o : Verdict) (r : ZvChecked) → Numbered o → r ≡ checked_code o → Checks o r
checks o r n e = record { code = e; tells = ap verdict_told e ∙ told_is o tt n (λ x p. refl) }

flag-back : (b : Bool) → eqb (cond b 1 0) 1 ≡ b
flag-back true = refl
flag-back false = refl

abbrev row_read : Outcome Row → Row
row_read o = record { set = eqb (flag_in o) 1; first = first_in o; last = last_in o }

flag_is : (o : Outcome Row) (x : Row) → o ≡ answer x → row_read o ≡ x
unfolding flag_in first_in last_in
flag_is o x e = ap row_read e ∙ ap (λ (b : Bool). record { set = b; first = x.first; last = x.last }) (flag-back x.set)

pub flags : (o : Outcome Row) (r : ZvFlag) → Numbered o → r ≡ flag_code o → Flags o r
flags o r n e = record { code = e; tells = ap flag_told e ∙ told_is o (row_read o) n (flag_is o) }

-- of a number and of a value, which differ in their width alone
value-is : (o : Outcome ℕ) → Numbered o → told (number_in o) (bitmap_in o) (word_in o) (value_in o) ≡ o
unfolding value_in
value-is o n = told_is o (value_in o) n (λ x p. ap value_in p)

pub numbers : (o : Outcome ℕ) (r : ZvNumber) → Numbered o → r ≡ number_code o → Numbers o r
numbers o r n e = record { code = e; tells = ap number_told e ∙ value-is o n }

pub values : (o : Outcome ℕ) (r : ZvValue) → Numbered o → r ≡ value_code o → Values o r
values o r n e = record { code = e; tells = ap value_read e ∙ value-is o n }

pub signed-values : (o : Outcome ℤ) (r : ZvSignedValue) → Numbered o → r ≡ signed_code o → SignedValues o r
unfolding signed_in
signed-values o r n e = record { code = e; tells = ap signed_read e ∙ told_is o (signed_in o) n (λ x p. ap signed_in p) }

-- ---- a call that writes

words-front : (o : Outcome (List ℕ)) (out out' : List ℕ) → out' ≡ buffer_after o out → (x : List ℕ) → o ≡ answer x → take (words_reported o) out' ≡ x
unfolding buffer_after words_reported
words-front o out out' l x e = rw (l, e) (take-append_seam x (drop (length x) out))

written-code : (o : Outcome (List ℕ)) (r : Result ℕ Refusal) (out out' : List ℕ) → Wrote o r out out' → written_reply r ≡ written_code o
unfolding written_reply written_of words_of number_in bitmap_in word_in words_reported
written-code o (Ok n) out out' w =
    subst (λ (p : Outcome (List ℕ)). n ≡ words_reported p → written_reply (Ok n) ≡ written_code p) w.told
    (λ e. ap (λ (k : ℕ). record { number = 0; bitmap = 0; word = 0; words = k }) e)
    w.words
written-code o (Err r) out out' w = subst (λ (p : Outcome (List ℕ)). written_reply (Err r) ≡ written_code p) w.told refl

-- of an outcome whose numbers are not those of every call, too
pub writes-some : (o : Outcome (List ℕ)) (r : Result ℕ Refusal) (s : ZvWritten) (out out' : List ℕ) → NotZero o → s ≡ written_reply r → Wrote o r out out' → Writes o s out out'
writes-some o r s out out' n e w =
    let code = e ∙ written-code o r out out' w in
    record {
      code = code;
      tells = ap (λ (t : ZvWritten). written_told t out') code ∙ told-some o (take (words_reported o) out') n (words-front o out out' w.left);
      left = w.left;
    }

pub writes : (o : Outcome (List ℕ)) (r : Result ℕ Refusal) (s : ZvWritten) (out out' : List ℕ) → Numbered o → s ≡ written_reply r → Wrote o r out out' → Writes o s out out'
writes o r s out out' n e w = writes-some o r s out out' (λ m b k p. number_of (List ℕ) m b k (subst Numbered p n)) e w

-- ---- an answer over a list

answered-code : (index list : List ℕ) (o : Outcome (List ℕ)) (r : Result Report Refusal) (out out' : List ℕ) → Reported index list o r out out' → answered_reply r ≡ answered_code index list o
unfolding answered_reply answered_of words_in stretches_in number_in bitmap_in word_in words_reported stretches_reported
answered-code index list o (Ok a) out out' w =
    subst (λ (p : Outcome (List ℕ)). a.words ≡ words_reported p → a.stretches ≡ stretches_reported index list p → answered_reply (Ok a) ≡ answered_code index list p) w.told
    (λ e f. ap₂ (λ (k m : ℕ). record { number = 0; bitmap = 0; word = 0; words = k; stretches = m }) e f)
    w.words
    w.stretches
answered-code index list o (Err r) out out' w = subst (λ (p : Outcome (List ℕ)). answered_reply (Err r) ≡ answered_code index list p) w.told refl

pub reports : (index list : List ℕ) (o : Outcome (List ℕ)) (r : Result Report Refusal) (s : ZvAnswered) (out out' : List ℕ) → Numbered o → s ≡ answered_reply r → Reported index list o r out out' → Reports index list o s out out'
reports index list o r s out out' n e w =
    let code = e ∙ answered-code index list o r out out' w in
    record {
      code = code;
      tells = ap (λ (t : ZvAnswered). answered_told t out') code ∙ told_is o (take (words_reported o) out') n (words-front o out out' w.left);
      left = w.left;
    }

-- a demand met by what the public call tells is met by what the caller reads
pub demanded : (D : Outcome (List ℕ) → Type 0) (o : Outcome (List ℕ)) {p q : Outcome (List ℕ)} → p ≡ o → q ≡ o → D p → D q
demanded D o e f d = subst D (e ∙ sym f) d

-- ---- a histogram

counts-front : (o : Outcome (List ℕ)) (x : List ℕ) → o ≡ answer x → histogram_reported o ≡ x
unfolding histogram_reported
counts-front o x e = rw e refl

pub counts : (o : Outcome (List ℕ)) (r : ZvHistogram) → Numbered o → r ≡ histogram_code o → Counts o r
counts o r n e = record { code = e; tells = ap counts_told e ∙ told_is o (histogram_reported o) n (counts-front o) }

-- ---- a bool as a number

pub as_number : (b : Bool) → bool_byte b ≡ cond b 1 0
as_number true = refl
as_number false = refl
