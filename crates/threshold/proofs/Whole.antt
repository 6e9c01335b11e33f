-- What was read of an input has the whole input's output.
-- Assumes nothing.
use Rattle.std.proofs.Common.{◌≡◌, ℕ, ◌+◌, ◌<◌, List, [], ◌++◌, length, Bool, true, false, Option, None, Some, Result, Ok, Err, IfSome, OnOk, refl, sym, ap, ◌∙◌, arith, subst, append-nil, length-append, ltb, ltb-true, ltb-false}
use Rattle.std.specs.Io.KnownBytes.{Consumes, IsAtEnd}
use Rattle.threshold.specs.Output.{output_of, most_bytes}
use Rattle.threshold.proofs.Starting.{output-long}

-- the input ends there, or both are too long
same-output : (read rest : List ℕ) → (length read < most_bytes + 1 → rest ≡ []) → output_of read ≡ output_of (read ++ rest)
same-output read rest f = go (ltb (length read) (most_bytes + 1)) refl
  where
    go : (t : Bool) → ltb (length read) (most_bytes + 1) ≡ t → output_of read ≡ output_of (read ++ rest)
    go true t = ap output_of (sym (ap (λ (l : List ℕ). read ++ l) (f (ltb-true _ _ t)) ∙ append-nil read))
    go false t =
        output-long read (omega (arith, ltb-false _ _ t))
        ∙ sym (output-long (read ++ rest) (omega (arith, ltb-false _ _ t, length-append read rest)))

-- of bytes that are known
whole-output : (from left : Option (List ℕ)) (read : List ℕ) (P : List ℕ → Type 0) → Consumes from left read
    → (length read < most_bytes + 1 → IsAtEnd left) → P (output_of read) → IfSome from (λ input. P (output_of input))
whole-output None left read P c e p = tt
whole-output (Some xs) None read P c e p = absurd c
whole-output (Some xs) (Some ys) read P c e p = subst P (same-output read ys e ∙ ap output_of (sym c)) p

-- where no read failed
pub ended-output : {E : Type 0} (ended : Result Unit E) (from left : Option (List ℕ)) (read : List ℕ) (n room : ℕ)
    (P : List ℕ → Type 0) → n ≡ length read → room ≡ most_bytes + 1 → Consumes from left read
    → OnOk ended (n < room → IsAtEnd left) → P (output_of read) → OnOk ended (IfSome from (λ input. P (output_of input)))
ended-output (Ok _) from left read n room P l m c e p = whole-output from left read P c (λ h. e (omega arith)) p
ended-output (Err _) from left read n room P l m c e p = tt
