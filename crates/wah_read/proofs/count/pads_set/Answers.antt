-- `wah_read::count::pads_set` meets its contract: no words have no pad bits, and by `LastWord` a literal at the end sets none, a fill
-- of ones all. Rows are no more than the bits of their segments, and the pad bits fewer than a segment's.
-- Assumes nothing.
use native.Mathlib.Omega.{arith}
use native.Mathlib.Nat.{mul-le-mul_right}
use Prim.Native.Nat.{ℕ, ◌-◌, ◌*◌, ◌≤◌}
use mathlib.Core.Path.{◌≡◌, sym, ap, ◌∙◌}
use lib.ListN.{length, get_or}
use mathlib.Core.Bool.{true, false}
use Rattle.meaning.specs.Segment.{segment_count}
use Rattle.meaning.specs.Wah.{is_fill}
use Rattle.wah_read.proofs.LastWord.{pads-no-words, pads-literal, pads-fill}
use Rattle.wah_read.proofs.count.pads_set.Goals as goal

pub overflow_mul-result : goal.overflow_mul-result
unfolding segment_count
overflow_mul-result c = omega (arith, c.segments.ensures)

pub overflow_sub-result : goal.overflow_sub-result
unfolding segment_count
overflow_sub-result c = omega (arith, c.segments.ensures)

pub overflow_mul-result-then-is_fill : goal.overflow_mul-result-then-is_fill
unfolding segment_count
overflow_mul-result-then-is_fill c =
    let k = c.segments.result * 31 - c.args.rows in
    let one : c.read.result.value ≤ 1 = omega (arith, c.read.ensures.value_low) in
    omega (arith, c.segments.ensures, c.requires.0, mul-le-mul_right k one)

pub returns-then-is_fill : goal.returns-then-is_fill
returns-then-is_fill c =
    let b = c.args.body.now in
    let f = c.read.ensures in
    let v = c.read.result.value in
    let last = c.in-Some.ensures.item in
    let its : c.in-Some.field-0.now ≡ get_or b (length b - 1) 0 = last.4 (omega arith) 0 in
    let is : is_fill (get_or b (length b - 1) 0) ≡ true = ap is_fill (sym its) ∙ sym c.is_fill.ensures ∙ c.if-is_fill.true in
    ap (λ (k : ℕ). v * (k * 31 - c.args.rows)) c.segments.ensures
    ∙ sym (pads-fill c.args.rows b c.requires.1 (omega (arith, last.3.0)) is v (rw its at f.value-is) f.value_low)

pub returns : goal.returns
returns c =
    let b = c.args.body.now in
    let last = c.in-Some.ensures.item in
    let its : c.in-Some.field-0.now ≡ get_or b (length b - 1) 0 = last.4 (omega arith) 0 in
    let is : is_fill (get_or b (length b - 1) 0) ≡ false = ap is_fill (sym its) ∙ sym c.is_fill.ensures ∙ c.if-is_fill.false in
    sym (pads-literal c.args.rows b c.requires.1 (omega (arith, last.3.0)) is)

pub returns-in_default : goal.returns-in_default
returns-in_default c = sym (pads-no-words c.args.rows c.args.body.now (omega (arith, c.in_default.ensures.item.3)))
