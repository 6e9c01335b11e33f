-- What a call that writes tells and leaves: where it is refused, and where the buffer may be too short.
-- Assumes nothing.
use Prim.Native.Nat.{ℕ, ◌≤◌, ◌<◌}
use mathlib.Core.Bool.{Bool}
use mathlib.Core.Path.{◌≡◌, refl, sym, ap, subst, ◌∙◌}
use mathlib.Core.List.{List, ◌++◌}
use native.Mathlib.Omega.{arith}
use lib.ListN.{length, drop}
use lib.Seq.{take_at}
use Rattle.meaning.specs.Refusal.{Outcome, Verdict, refused, answer, ◌then◌}
use Rattle.meaning.specs.Format.{canonical}
use Rattle.meaning.specs.declared.Format.{Format}
use Rattle.meaning.specs.Answer.{fits, buffer_after, words_reported, stretches_reported, write}
use Rattle.laws.proofs.Outcomes.{fits-yes, fits-no, then-sound}
use Rattle.std.specs.Prelude.{Result, Ok, Err}
use Rattle.std.specs.Result.{IsErrAnd}
use Rattle.answers.specs.declared.refusal.Refusal.{Refusal}
use Rattle.answers.specs.declared.refusal.Fault.TheVariants.{NoRoom}
use Rattle.answers.specs.declared.answer.Report.{Report}
use Rattle.answers.specs.Told.{refused_by, refusal, outcome_of, written_of, words_of, Wrote, answered_of, words_in, stretches_in, Reported}
use Rattle.answers.proofs.Checks.{sound-is, refuses}

-- ---- a buffer

module _ (out : List ℕ) where
  -- a refused call tells the refusal and leaves the buffer
  pub wrote-refused : (r : Refusal) (o : Outcome (List ℕ)) → refused_by r ≡ o → Wrote o (Err r) out out
  unfolding written_of words_of buffer_after words_reported
  wrote-refused r o e = rw (← e) (record { told = refl; words = refl; left = refl })

  module _ (ws : List ℕ) (n : ℕ) (is : n ≡ length ws) {room : ℕ} where
    pub wrote_none : room < n → Wrote (fits room ws) (Err (refusal NoRoom n)) out out
    wrote_none h = wrote-refused (refusal NoRoom n) (fits room ws) (ap (λ (m : ℕ). refused 9 0 m) is ∙ sym (fits-no room ws (omega arith)))

    pub wrote-words : (out' : List ℕ) → n ≤ room → out' ≡ ws ++ drop (length ws) out → Wrote (fits room ws) (Ok n) out out'
    unfolding written_of words_of buffer_after words_reported
    wrote-words out' h e =
        rw (fits-yes room ws (omega arith), e)
        (record { told = ap answer (take_at ws (drop (length ws) out) n (sym is)); words = is; left = refl })

-- the canonical body of the rows p, of n words, into a buffer
module _ (F : Format) (R : ℕ) (p : ℕ → Bool) (out : List ℕ) (n : ℕ) (is : n ≡ length (canonical F R p)) where
  pub write-none : (r : Refusal) → r ≡ refusal NoRoom n → length out < n
      → Wrote (write F R p (length out)) (Err r) out out
  unfolding write
  write-none r e h = rw e (wrote_none out (canonical F R p) n is h)

  pub write-words : (out' : List ℕ) → n ≤ length out → out' ≡ canonical F R p ++ drop (length (canonical F R p)) out
      → Wrote (write F R p (length out)) (Ok n) out out'
  unfolding write
  write-words out' h e = wrote-words out (canonical F R p) n is out' h e

  -- where the buffer was measured first, as `mid`, and is as it was
  pub write_kept : (mid : List ℕ) (r : Refusal) → mid ≡ out → r ≡ refusal NoRoom n → length mid < n
      → Wrote (write F R p (length out)) (Err r) out mid
  write_kept mid r k e h = rw k (write-none r e (rw k at h))

-- what was written to the buffer as it was measured, was written to it
pub write_mid : (F : Format) (R : ℕ) (p : ℕ → Bool) (out mid : List ℕ) (r : Result ℕ Refusal) (out' : List ℕ) → mid ≡ out
    → Wrote (write F R p (length mid)) r mid out' → Wrote (write F R p (length out)) r out out'
write_mid F R p out mid r out' k w = subst (λ (l : List ℕ). Wrote (write F R p (length l)) r l out') k w

-- a call behind a check that finds nothing tells what the question behind it tells
pub wrote_then : (k : Result (Unit {0}) Refusal) (v : Verdict) (o : Outcome (List ℕ)) (r : Result ℕ Refusal) (out out' : List ℕ) → outcome_of k ≡ v → k ≡ Ok tt → Wrote o r out out' → Wrote (v then o) r out out'
wrote_then k v o r out out' e h w = rw (then-sound v o (sound-is k v e h)) w

-- a call that hands the check's refusal on
pub wrote-stopped : (k : Result (Unit {0}) Refusal) (v : Verdict) (o : Outcome (List ℕ)) (r : Result ℕ Refusal) (x : Refusal) (out : List ℕ)
    → outcome_of k ≡ v → k ≡ Err x → IsErrAnd r (λ y. y ≡ x) → Wrote (v then o) r out out
wrote-stopped k v o (Ok n) x out e h g = elim g [ ]
wrote-stopped k v o (Err y) x out e h g = wrote-refused out y (v then o) (ap refused_by g ∙ refuses k v e o x h)

-- the same of a call over a list
pub reported-stopped : (index list : List ℕ) (k : Result (Unit {0}) Refusal) (v : Verdict) (o : Outcome (List ℕ)) (r : Result Report Refusal) (x : Refusal) (out : List ℕ)
    → outcome_of k ≡ v → k ≡ Err x → IsErrAnd r (λ y. y ≡ x) → Reported index list (v then o) r out out
unfolding answered_of words_in stretches_in buffer_after words_reported stretches_reported
reported-stopped index list k v o (Ok a) x out e h g = elim g [ ]
reported-stopped index list k v o (Err y) x out e h g =
    rw (← (ap refused_by g ∙ refuses k v e o x h)) (record { told = refl; words = refl; stretches = refl; left = refl })
