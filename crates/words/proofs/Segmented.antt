-- How rows fill segments of w bits, for any width w.
-- Assumes nothing.
use Prim.Native.Nat.{ℕ, zero, suc, ◌/◌, ◌%◌, ◌≤◌, ◌<◌}
use mathlib.Core.Path.{◌≡◌, refl, sym, ap, ◌∙◌}
use mathlib.Core.Bool.{Bool, true, false, cond, not}
use native.Mathlib.Omega.{arith}
use native.Mathlib.Nat.{div-eq_of_lt, le-div_iff_mul-le}
use borrow.Author.Tests.{eqb-true, eqb-false, eq-eqb, ne_eqb, le-leb, lt-leb}
use lib.Dec.{eqb, leb}
use native.Mathlib.Decide.{dec_le}
use lib.Pow.{pow_pos}
use Rattle.meaning.specs.Segment.{segment_count, all_set, clean, mixed, kind}
use Rattle.laws.proofs.Segments.{kind-full, kind-mixed}
use Rattle.laws.proofs.RowWords.{count-zero}

-- where there is a segment there are rows
pub some-rows : (w R : ℕ) → 0 < w → 1 ≤ segment_count w R → 1 ≤ R
some-rows w zero pos h = absurd (omega (arith, count-zero w pos))
some-rows w (suc r) pos h = omega arith

-- ---- the kind of a segment by its word: of a clean one the lowest bit is the value

pub kind-none : (w x : ℕ) → x ≡ 0 → kind w x ≡ clean (x % 2)
unfolding kind
kind-none w x e = rw e

ones_odd : (w : ℕ) → 1 ≤ w → all_set w % 2 ≡ 1
unfolding all_set
ones_odd zero h = absurd (omega arith)
ones_odd (suc w) h = omega (arith, pow_pos w)

pub kind-some : (w x full : ℕ) → 1 ≤ w → full ≡ all_set w → (x ≡ 0 → ⊥)
    → kind w x ≡ cond (eqb x full) (clean (x % 2)) (mixed x)
kind-some w x full h f g = go (eqb x full) refl
  where
    go : (t : Bool) → eqb x full ≡ t → kind w x ≡ cond t (clean (x % 2)) (mixed x)
    go true e =
        let same = eqb-true x full e ∙ f in
        rw same (kind-full w h ∙ ap clean (sym (ones_odd w h)))
    go false e = kind-mixed w x g (λ k. eqb-false x full e (k ∙ sym f))

-- a word of which something is left behind a shift is no less than the power that it divides by
pub left_behind : (x d : ℕ) → 0 < d → not (eqb (x / d) 0) ≡ leb d x
left_behind x d pos = elim (dec_le d x) [
  | yes h ↦ let some : 1 ≤ x / d = (le-div_iff_mul-le pos).1 (omega arith) in ap not (ne_eqb (x / d) 0 (omega arith)) ∙ sym (le-leb d x h)
  | no h ↦ ap not (eq-eqb (x / d) 0 (div-eq_of_lt (omega arith))) ∙ sym (lt-leb d x (omega arith))
]
