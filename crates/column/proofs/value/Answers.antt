-- `column::value` meets its contract. The invariant: v is the value of the slices from place i on.
-- Assumes nothing.
use Prim.Native.Nat.{◌+◌, ◌-◌, ◌≤◌, ◌<◌}
use mathlib.Core.Path.{◌≡◌, ◌∙◌, ap}
use native.Mathlib.Omega.{arith}
use lib.ListN.{length, get_or}
use Rattle.column.proofs.Columns.{value_from, value_none, value-more, value-all, value-few, value_low}
use Rattle.laws.proofs.RowWords.{bit_le}
use Rattle.meaning.specs.Index.{rows_at}
use Rattle.column.proofs.value.Goals as goal

pub loop-i-init : goal.loop-i-init
loop-i-init c =
    let n = length c.args.list.now in
    let e : n - n ≡ 0 = omega arith in
    let none = value_none c.args.index.now c.args.list.now c.args.row n (omega arith) in
    (omega (arith, c.requires.least_column_in_bounds.0), omega arith, rw e (omega arith), none)

pub overflow_mul-v : goal.overflow_mul-v
overflow_mul-v c =
    let l = c.loop-i in
    omega (arith, value-few (length c.args.list.now) l.i l.v l.invariant.0 c.requires.least_column_in_bounds.1 l.invariant.2)

pub overflow_add-v : goal.overflow_add-v
overflow_add-v c =
    let l = c.loop-i in
    let a = c.args in
    omega (
      arith,
      value-few (length a.list.now) l.i l.v l.invariant.0 c.requires.least_column_in_bounds.1 l.invariant.2,
      c.digit.ensures,
      bit_le (rows_at a.index.now (get_or a.list.now (l.i - 1) 0) a.row),
    )

pub loop-i-preserved : goal.loop-i-preserved
loop-i-preserved c =
    let l = c.loop-i in
    let a = c.args in
    let e : l.i ≡ l.i - 1 + 1 = omega arith in
    let d = c.digit.result in
    let low : d ≤ 1 = omega (arith, c.digit.ensures, bit_le (rows_at a.index.now (get_or a.list.now (l.i - 1) 0) a.row)) in
    let inside : l.i - 1 < length a.list.now = omega (arith, l.invariant.0, l.invariant.1) in (
      omega (arith, c.loop-i-test.true),
      omega (arith, l.invariant.1),
      value_low (length a.list.now) l.i l.v d l.invariant.0 l.invariant.1 l.invariant.2 low,
      value-more a.index.now a.list.now a.row (l.i - 1) l.v d inside
          (l.invariant.3 ∙ ap (value_from a.index.now a.list.now a.row) e) c.digit.ensures,
    )

pub returns : goal.returns
returns c =
    let l = c.loop-i in
    let a = c.args in
    let e : l.i ≡ 1 = omega (arith, l.invariant.0, c.loop-i-test.false) in
    l.invariant.3 ∙ ap (value_from a.index.now a.list.now a.row) e
    ∙ value-all a.index.now a.list.now a.row (omega (arith, c.requires.least_column_in_bounds.0))
