-- `ewah_count::count::pads_set` meets its contract, by `pads-dirty` and `pads-clean`. Rows are no more than the bits of
-- their segments, and the pad bits fewer than a word's.
-- Assumes nothing.
use native.Mathlib.Omega.{arith}
use Prim.Native.Nat.{ℕ, ◌-◌, ◌*◌, ◌≤◌}
use mathlib.Core.Path.{sym, ap₂, ◌∙◌}
use native.Mathlib.Nat.{mul-le-mul_right}
use Rattle.meaning.specs.Segment.{segment_count}
use Rattle.ewah_count.proofs.LastSegment.{pads-clean, pads-dirty}
use Rattle.ewah_count.proofs.count.pads_set.Goals as goal

pub returns-then-m-gt0 : goal.returns-then-m-gt0
returns-then-m-gt0 c = sym (pads-dirty c.args.rows c.args.last (omega (arith, c.read-m.ensures.dirty-is)))

pub overflow_mul-result : goal.overflow_mul-result
unfolding segment_count
overflow_mul-result c = omega (arith, c.segment_count.ensures)

pub overflow_sub-result : goal.overflow_sub-result
unfolding segment_count
overflow_sub-result c = omega (arith, c.segment_count.ensures)

pub overflow_mul-result-2 : goal.overflow_mul-result-2
unfolding segment_count
overflow_mul-result-2 c =
    let k = c.segment_count.result * 32 - c.args.rows in
    let one : c.read-m.result.value ≤ 1 = omega (arith, c.read-m.ensures.in-range.value_low) in
    omega (arith, c.segment_count.ensures, c.requires, mul-le-mul_right k one)

pub returns : goal.returns
returns c =
    let f = c.read-m.ensures in
    let a = c.args in
    ap₂ (λ (v k : ℕ). v * (k * 32 - a.rows)) f.value-is c.segment_count.ensures
    ∙ sym (pads-clean a.rows a.last (omega (arith, f.dirty-is)))
