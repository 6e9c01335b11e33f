-- How many digits the values of columns have, plain and signed.
-- Assumes nothing.
use Prim.Native.Nat.{ℕ, suc, ◌+◌, ◌-◌, ◌^◌, ◌≤◌, ◌<◌}
use mathlib.Core.Bool.{◌||◌}
use mathlib.Core.Path.{◌≡◌, refl, sym, ap, ◌∙◌, subst}
use mathlib.Core.List.{List, [], ◌∷◌}
use lib.ListN.{length}
use lib.Pow.{pow_mono}
use lib.IntN.{ℤ, pos, nat_abs, ◌+ℤ◌, ◌-ℤ◌, +ℤ-neg_ℤ_cancel}
use lib.Signed.{mag}
use native.Mathlib.Omega.{arith}
use Rattle.meaning.specs.Limits.{most_column, most_value_column}
use Rattle.meaning.specs.Refusal.{answer}
use Rattle.meaning.specs.Answer.{check}
use Rattle.column_meaning.specs.Column.{value_of}
use Rattle.column_meaning.specs.Columns.{slice_count, wider, slices_of, value_at, signed_at, bad_column, bad_row, strays, ask_at, ask_value, value, ask_signed_value, signed_value}
use Rattle.laws.specs.ColumnLaws.{most_sum_slices, DigitLaws, SignLaws}
use Rattle.laws.proofs.Tests.{or-false}
use Rattle.laws.proofs.Outcomes.{refuse-answer, then-answer}
use Rattle.laws.proofs.NamedBitmaps.{named-length, column-length}
use Rattle.laws.proofs.ColumnValues.{value-lt, column-digits, column-value}
use Rattle.laws.proofs.SignedValues.{minus-below, signed-less, signed-plain, signed_range}
use Rattle.laws.proofs.ColumnOrder.{told}

-- ---- digits

-- a list names as many slices as its column has
pub slices-many : (index list : List ℕ) → length (slices_of index list) ≡ slice_count list
unfolding slices_of slice_count
slices-many index [] = refl
slices-many index (k ∷ ks) = omega (arith, named-length index ks)

-- a value has no more digits than its column has slices
named-below : (index list : List ℕ) (r : ℕ) → value_at index list r < 2 ^ slice_count list
unfolding value_at
named-below index list r =
    let ps = slices_of index list in
    subst (λ (n : ℕ). value_of ps r < 2 ^ n) (slices-many index list) (value-lt ps r)

-- nor than any column of more slices
pub below_more : (index list : List ℕ) (r n : ℕ) → slice_count list ≤ n → value_at index list r < 2 ^ n
below_more index list r n h = omega (arith, named-below index list r, pow_mono {i = slice_count list} {j = n} h)

-- nor than the wider of two columns has
pub below_wider : (index first second : List ℕ) (r : ℕ)
    → (value_at index first r < 2 ^ wider first second) × (value_at index second r < 2 ^ wider first second)
unfolding wider
below_wider index first second r =
    let w = wider first second in
    (below_more index first r w (omega arith), below_more index second r w (omega arith))

-- so a sum has at most one digit more
pub sum_below : (index first second : List ℕ) (r : ℕ)
    → value_at index first r + value_at index second r < 2 ^ suc (wider first second)
sum_below index first second r = omega (arith, below_wider index first second r)

-- one of up to 32 slices is below 2 ^ 32
below-most : (index list : List ℕ) (r : ℕ) → length list ≤ most_column → value_at index list r < 2 ^ (most_sum_slices - 1)
unfolding slice_count
below-most index list r h = below_more index list r (most_sum_slices - 1) (omega arith)

-- and a sum of two such below 2 ^ 33
sum-most : (index first second : List ℕ) (r : ℕ) → length first ≤ most_column → length second ≤ most_column
    → value_at index first r + value_at index second r < 2 ^ most_sum_slices
sum-most index first second r f s = omega (arith, below-most index first r f, below-most index second r s)

-- what is answered of a row is its value, and the list that was asked has 1 to 33 slices
told-value : {A : Type 0} (index list : List ℕ) (r : ℕ) (v a : A) → told index list r v ≡ answer a
    → (v ≡ a) × (1 ≤ slice_count list) × (slice_count list ≤ most_sum_slices)
unfolding ask_at slice_count
told-value index list r v a e =
    let b = then-answer (check index) _ a e in
    let c = refuse-answer (bad_column index most_value_column list || bad_row index list r) 8 0 0 _ a b.1 in
    let d = (then-answer (strays index list) _ a c.1).1 in
    let good = (or-false (bad_column index most_value_column list) (bad_row index list r) c.0).0 in
    let l = column-length index most_value_column list good in
    (cc, omega (arith, l.0), omega (arith, l.1))

-- so a value is below 2 ^ 33
value-most : (index list : List ℕ) (r v : ℕ) → value index list r ≡ answer v → v < 2 ^ most_sum_slices
unfolding value ask_value
value-most index list r v e =
    let t = told-value index list r (value_at index list r) v e in
    subst (λ (x : ℕ). x < 2 ^ most_sum_slices) t.0 (below_more index list r most_sum_slices t.2)

pub digit-laws : DigitLaws
digit-laws = record {
  below = value-lt;
  named-below = named-below;
  lowest = λ exists v n r e. column-digits exists v r e n;
  all = λ exists v n r e h. column-value exists v r e n h;
  sum_below = sum_below;
  sum-most = sum-most;
  sum-digits = λ index first second exists r e.
      column-value exists (λ s. value_at index first s + value_at index second s) r e
      (suc (wider first second)) (sum_below index first second r);
  value-most = value-most;
}

-- ---- signed values

-- an answered one is from - 2 ^ 32 to 2 ^ 32 - 1
signed-most : (index list : List ℕ) (r : ℕ) (z : ℤ)
    → signed_value index list r ≡ answer z → mag z < 2 ^ (most_sum_slices - 1)
unfolding signed_value ask_signed_value signed_at
signed-most index list r z e =
    let t = told-value index list r (signed_at index list r) z e in
    let n = slice_count list - 1 in
    let m : length (slices_of index list) ≡ suc n = omega (arith, slices-many index list, t.1) in
    let low : mag (signed_at index list r) < 2 ^ n = signed_range (slices_of index list) r n m in
    let most : 2 ^ n ≤ 2 ^ (most_sum_slices - 1) = pow_mono {i = n} {j = most_sum_slices - 1} (omega (arith, t.2)) in
    subst (λ (x : ℤ). mag x < 2 ^ (most_sum_slices - 1)) t.0 (omega arith)

-- the only z that makes the first of the second is their difference, which is below 2 ^ 32 both ways
difference-most : (index first second : List ℕ) (r : ℕ) → length first ≤ most_column → length second ≤ most_column
    → (z : ℤ) → z +ℤ pos (value_at index second r) ≡ pos (value_at index first r) → nat_abs z < 2 ^ (most_sum_slices - 1)
difference-most index first second r f s z e =
    let x = value_at index first r in
    let y = value_at index second r in
    let is-z : pos x -ℤ pos y ≡ z = ap (λ (k : ℤ). k -ℤ pos y) (sym e) ∙ +ℤ-neg_ℤ_cancel z (pos y) in
    subst (λ (k : ℤ). nat_abs k < 2 ^ (most_sum_slices - 1)) is-z
    (minus-below (2 ^ (most_sum_slices - 1)) x y (below-most index first r f) (below-most index second r s))

pub sign-laws : SignLaws
sign-laws = record {
  less = signed-less;
  plain = signed-plain;
  range = signed_range;
  signed-most = signed-most;
  difference-most = difference-most;
}
