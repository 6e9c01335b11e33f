-- `ewah_count::count::count_segments` meets its contract, by the laws of `Passing`. Assumes nothing.
use native.Mathlib.Omega.{arith}
use Prim.Native.Nat.{◌+◌, ◌*◌, ◌≤◌}
use Rattle.meaning.specs.Limits.{most_segments}
use Rattle.ewah_count.proofs.Passing.{none_passed, marker-there, marker-read, all-passed, dirty-fit, segments-fit, at_most, passed-next}
use Rattle.ewah_count.proofs.count.count_segments.Given.{Over}
use Rattle.ewah_count.proofs.count.count_segments.Goals as goal

-- the bits counted, with those of the marker that was read
counted : (g : Over) (c : goal.After-count_words g)
    → c.loop-left.set + (c.count_run.result + c.count_words.result) ≤ most_segments * 32
counted g c =
    at_most (marker-read c.loop-left.invariant c.loop-left-test.true c.read-m.ensures) _ _ c.count_run.ensures c.count_words.ensures

pub loop-left-init : goal.loop-left-init
loop-left-init g c =
    none_passed c.args.rows c.args.body.now _ c.requires.0 c.requires.1 c.segment_count-left.ensures

pub bounds-body-at : goal.bounds-body-at
bounds-body-at g c = marker-there c.loop-left.invariant c.loop-left-test.true

pub slice_bounds-count_words-end : goal.slice_bounds-count_words-end
slice_bounds-count_words-end g c =
    omega (arith, dirty-fit (marker-read c.loop-left.invariant c.loop-left-test.true c.read-m.ensures))

pub overflow_add-set : goal.overflow_add-set
overflow_add-set g c = omega (arith, counted g c)

pub overflow_add-set-in-loop-left : goal.overflow_add-set-in-loop-left
overflow_add-set-in-loop-left g c = omega (arith, counted g c)

pub overflow_sub-left : goal.overflow_sub-left
overflow_sub-left g c =
    omega (arith, segments-fit (marker-read c.loop-left.invariant c.loop-left-test.true c.read-m.ensures))

pub overflow_sub-left-in-loop-left : goal.overflow_sub-left-in-loop-left
overflow_sub-left-in-loop-left g c =
    omega (arith, segments-fit (marker-read c.loop-left.invariant c.loop-left-test.true c.read-m.ensures))

pub loop-left-smaller : goal.loop-left-smaller
loop-left-smaller g c = omega (arith, marker-there c.loop-left.invariant c.loop-left-test.true)

pub loop-left-preserved : goal.loop-left-preserved
loop-left-preserved g c =
    passed-next (marker-read c.loop-left.invariant c.loop-left-test.true c.read-m.ensures) _ _ c.count_run.ensures c.count_words.ensures

pub returns : goal.returns
returns g c = all-passed c.loop-left.invariant (omega (arith, c.loop-left-test.false))
