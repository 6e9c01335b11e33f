-- Words into a buffer, too many for it or not: the plain words of a set of rows, and its canonical body.
-- Assumes nothing.
use Rattle.std.specs.Prelude.{Ok, Err}
use Prim.Native.Nat.{ℕ, ◌≤◌, ◌<◌}
use mathlib.Core.Bool.{Bool}
use mathlib.Core.Path.{◌≡◌, sym, ap, ◌∙◌}
use mathlib.Core.List.{List, ◌++◌}
use native.Mathlib.Omega.{arith}
use lib.ListN.{length, drop}
use Rattle.meaning.specs.Segment.{segment_count, from_rows}
use Rattle.meaning.specs.Format.{canonical}
use Rattle.meaning.specs.declared.Format.{Format}
use Rattle.meaning.specs.Answer.{ask_plain, write}
use Rattle.laws.proofs.RowWords.{from-length}
use Rattle.answers.specs.declared.refusal.Refusal.{Refusal}
use Rattle.answers.specs.declared.refusal.Fault.TheVariants.{NoRoom}
use Rattle.answers.specs.Told.{refusal, Wrote}
use Rattle.answers.proofs.Tells.{wrote_none, wrote-words, write-words}

-- the plain words of the rows p into a buffer: n of them, too many or not
module _ (R : ℕ) (p : ℕ → Bool) (out : List ℕ) (n : ℕ) (is : n ≡ segment_count 32 R) where
  long : segment_count 32 R ≡ length (from_rows 32 R p)
  long = sym (from-length 32 (omega arith) R p)

  pub plain-none : (r : Refusal) → r ≡ refusal NoRoom n → length out < n
      → Wrote (ask_plain R p (length out)) (Err r) out out
  unfolding ask_plain
  plain-none r e h = rw e (wrote_none out (from_rows 32 R p) n (is ∙ long) h)

  pub plain-words : (out' : List ℕ) → n ≤ length out → out' ≡ from_rows 32 R p ++ drop (segment_count 32 R) out
      → Wrote (ask_plain R p (length out)) (Ok n) out out'
  unfolding ask_plain
  plain-words out' h e =
      wrote-words out (from_rows 32 R p) n (is ∙ long) out' h
      (e ∙ ap (λ (k : ℕ). from_rows 32 R p ++ drop k out) long)

-- the canonical body of the rows p into a buffer, of which n words were told
pub write-told : (F : Format) (R : ℕ) (p : ℕ → Bool) (out : List ℕ) (n : ℕ) (out' : List ℕ) → n ≡ length (canonical F R p)
    → n ≤ length out → out' ≡ canonical F R p ++ drop n out → Wrote (write F R p (length out)) (Ok n) out out'
write-told F R p out n out' is h e =
    write-words F R p out n is out' h (e ∙ ap (λ (k : ℕ). canonical F R p ++ drop k out) is)
