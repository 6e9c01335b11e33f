-- `column::signed_value` meets its contract. The invariant: v is the signed value of the slices from place i on.
-- Assumes nothing.
use Prim.Native.Nat.{ℕ, ◌+◌, ◌-◌, ◌≤◌, ◌<◌, ◌^◌}
use mathlib.Core.Path.{◌≡◌, sym, ap, ap₂, ◌∙◌, subst}
use lib.IntN.{ℤ, pos, ◌+ℤ◌, ◌-ℤ◌, ◌*ℤ◌}
use lib.ListN.{length}
use lib.Signed.{mag}
use mir.Syntax.{w64}
use mir.Val.{SFits, of_z, to_z}
use mir.ValLaws.{to_z-of_z}
use Rattle.column.proofs.Columns.{signed_from, signed_top, signed-more, signed_all, signed-few, doubled_fits, few-fits, digit-fits, digit-signed}
use native.Mathlib.Omega.{arith}
use Rattle.column.proofs.signed_value.Lts
use Rattle.column.proofs.signed_value.Reads
use Rattle.column.proofs.signed_value.Tie
use Rattle.column.proofs.signed_value.Goals as goal

-- places in the code that lemmas below speak of
abbrev After-digit-sign : Type 0
After-digit-sign = Lts.After-digit Tie.the-claims Reads.Pre Reads.Post goal.the-invariant-loop-i goal.the-decreases-loop-i Tie.handed_clauses

abbrev After-digit : Type 0
After-digit = Lts.After-digit2 Tie.the-claims Reads.Pre Reads.Post goal.the-invariant-loop-i goal.the-decreases-loop-i Tie.handed_clauses

-- ---- where the sign is read
module _ (k : After-digit-sign) where
  -- the value of the slices from a place on
  abbrev from : ℕ → ℤ
  from i = signed_from k.args.index.now k.args.list.now k.args.row i

  -- the place of the top slice
  abbrev top : ℕ
  top = length k.args.list.now - 1

  few : (i : ℕ) → 1 ≤ i → i < length k.args.list.now → mag (from i) < 2 ^ 32
  few i g h = signed-few k.args.index.now k.args.list.now k.args.row i g h k.requires.least_column_in_bounds.1

  sign-is : pos 0 -ℤ to_z w64 k.digit-sign.result ≡ from top
  sign-is =
      ap (λ (z : ℤ). pos 0 -ℤ z) (digit-signed k.digit-sign.result _ k.digit-sign.ensures)
      ∙ signed_top k.args.index.now k.args.list.now k.args.row top k.digit-sign.result (omega (arith, k.requires.least_column_in_bounds.0)) k.digit-sign.ensures

  sign-fits : SFits w64 (pos 0 -ℤ to_z w64 k.digit-sign.result)
  sign-fits =
      let long = k.requires.least_column_in_bounds.0 in
      subst (SFits w64) (sym sign-is) (few-fits (from top) (few top (omega (arith, long)) (omega (arith, long))))

-- ---- where a digit is read
module _ (k : After-digit) where
  abbrev before : After-digit-sign
  before = k.before.before.before.before

  abbrev i : ℕ
  i = k.loop-i.i

  abbrev v : ℤ
  v = to_z w64 k.loop-i.v-bits

  v-is : v ≡ from before i
  v-is = k.loop-i.invariant.2

  doubled : SFits w64 (pos 2 *ℤ v)
  doubled =
      subst (λ (z : ℤ). SFits w64 (pos 2 *ℤ z)) (sym v-is)
      (doubled_fits (from before i) (few before i k.loop-i.invariant.0 k.loop-i.invariant.1))

  next-is : to_z w64 k.digit.result +ℤ to_z w64 (of_z w64 (pos 2 *ℤ v)) ≡ from before (i - 1)
  next-is =
      let e : i ≡ i - 1 + 1 = omega (arith, k.loop-i.invariant.0) in
      ap₂ (λ (a b : ℤ). a +ℤ b) (digit-signed k.digit.result _ k.digit.ensures) (to_z-of_z w64 (pos 2 *ℤ v) doubled)
      ∙ signed-more k.args.index.now k.args.list.now k.args.row (i - 1) k.digit.result v
      (omega (arith, k.loop-i.invariant.0, k.loop-i.invariant.1)) (v-is ∙ ap (from before) e) k.digit.ensures

  next-fits : SFits w64 (to_z w64 k.digit.result +ℤ to_z w64 (of_z w64 (pos 2 *ℤ v)))
  next-fits =
      subst (SFits w64) (sym next-is)
      (few-fits (from before (i - 1)) (few before (i - 1) (omega (arith, k.loop-i-test.true)) (omega (arith, k.loop-i.invariant.1))))

pub overflow_cast-sign : goal.overflow_cast-sign
overflow_cast-sign c = digit-fits c.digit-sign.result _ c.digit-sign.ensures

pub overflow_sub-v : goal.overflow_sub-v
overflow_sub-v c = sign-fits c.before

pub loop-i-init : goal.loop-i-init
loop-i-init c =
    let long = c.requires.least_column_in_bounds.0 in
    (omega (arith, long), omega (arith, long), to_z-of_z w64 _ (sign-fits c.before) ∙ sign-is c.before)

pub overflow_cast-v : goal.overflow_cast-v
overflow_cast-v c = digit-fits c.digit.result _ c.digit.ensures

pub overflow_mul-v : goal.overflow_mul-v
overflow_mul-v c = doubled c.before

pub overflow_add-v : goal.overflow_add-v
overflow_add-v c = next-fits c.before

pub loop-i-preserved : goal.loop-i-preserved
loop-i-preserved c =
    (omega (arith, c.loop-i-test.true), omega (arith, c.loop-i.invariant.1), to_z-of_z w64 _ (next-fits c.before) ∙ next-is c.before)

pub returns : goal.returns
returns c =
    let l = c.loop-i in
    let a = c.args in
    let e : l.i ≡ 1 = omega (arith, l.invariant.0, c.loop-i-test.false) in
    l.invariant.2 ∙ ap (signed_from a.index.now a.list.now a.row) e
    ∙ signed_all a.index.now a.list.now a.row (omega (arith, c.requires.least_column_in_bounds.0))
