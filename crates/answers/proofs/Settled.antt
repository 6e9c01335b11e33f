-- What the contracts of a value and of a call that writes settle: two results that tell one outcome are the same, and so are the
-- buffers that they leave. So no other program meets them.
-- Assumes nothing.
use Prim.Native.Nat.{ℕ}
use mathlib.Core.Path.{◌≡◌, refl, sym, ap, ◌∙◌}
use mathlib.Core.List.{List, [], ◌∷◌}
use lib.ListN.{get_or}
use native.Mathlib.Omega.{arith}
use Rattle.meaning.specs.Refusal.{Outcome}
use Rattle.std.specs.Prelude.{Result, Ok, Err}
use Rattle.answers.specs.declared.refusal.Refusal.{Refusal}
use Rattle.answers.specs.declared.refusal.Fault.{Fault}
use Rattle.answers.specs.declared.refusal.Fault.TheVariants.{CutOff, UnknownKind, TooLarge, WrongContents, DirtyPastEnd, WrongSegments, PadBit, BadArgument, NoRoom, EmptyFill, StrayRow, Mismatched}
use Rattle.answers.specs.Told.{number_of, refused_by, outcome_of, written_of, words_of, Wrote}

-- no two faults have one number: it tells the fault
fault_of : ℕ → Fault
fault_of n = get_or (Mismatched ∷ CutOff ∷ UnknownKind ∷ TooLarge ∷ WrongContents ∷ DirtyPastEnd ∷ WrongSegments ∷ PadBit ∷ BadArgument ∷ NoRoom ∷ EmptyFill ∷ StrayRow ∷ []) n Mismatched

fault-told : (f : Fault) → fault_of (number_of f) ≡ f
unfolding fault_of
fault-told CutOff = refl
fault-told UnknownKind = refl
fault-told TooLarge = refl
fault-told WrongContents = refl
fault-told DirtyPastEnd = refl
fault-told WrongSegments = refl
fault-told PadBit = refl
fault-told BadArgument = refl
fault-told NoRoom = refl
fault-told EmptyFill = refl
fault-told StrayRow = refl
fault-told Mismatched = refl

fault-one : (f g : Fault) → number_of f ≡ number_of g → f ≡ g
fault-one f g e = sym (fault-told f) ∙ ap fault_of e ∙ fault-told g

refusal-one : {A : Type 0} (r s : Refusal) → ◌≡◌ {A = Outcome A} (refused_by r) (refused_by s) → r ≡ s
refusal-one r s e =
    let n : number_of r.fault ≡ number_of s.fault = cc in
    let a : r.fault ≡ s.fault = fault-one r.fault s.fault n in
    let b : r.bitmap ≡ s.bitmap = cc in
    let c : r.word ≡ s.word = cc in
    rw (a, b, c)

pub outcome-one : {A : Type 0} (r s : Result A Refusal) → outcome_of r ≡ outcome_of s → r ≡ s
unfolding outcome_of
outcome-one (Ok a) (Ok b) e = let h : a ≡ b = cc in ap Ok h
outcome-one (Ok a) (Err s) e = let z : ◌≡◌ {A = ℕ} 0 1 = cc in absurd (omega arith)
outcome-one (Err r) (Ok b) e = let z : ◌≡◌ {A = ℕ} 0 1 = cc in absurd (omega arith)
outcome-one (Err r) (Err s) e = ap Err (refusal-one r s e)

written_one : (r s : Result ℕ Refusal) (b c : List ℕ) → written_of r b ≡ written_of s c → words_of r ≡ words_of s → r ≡ s
unfolding written_of words_of
written_one (Ok n) (Ok m) b c e w = ap Ok w
written_one (Ok n) (Err s) b c e w = let z : ◌≡◌ {A = ℕ} 0 1 = cc in absurd (omega arith)
written_one (Err r) (Ok m) b c e w = let z : ◌≡◌ {A = ℕ} 0 1 = cc in absurd (omega arith)
written_one (Err r) (Err s) b c e w = ap Err (refusal-one r s e)

pub wrote_one : (o : Outcome (List ℕ)) (r s : Result ℕ Refusal) (old b c : List ℕ) → Wrote o r old b → Wrote o s old c → (r ≡ s) × (b ≡ c)
wrote_one o r s old b c p q = (written_one r s b c (p.told ∙ sym q.told) (p.words ∙ sym q.words), p.left ∙ sym q.left)
