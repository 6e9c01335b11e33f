-- `histograms::count_stretch` meets its contract: each way is a law of `Histograms`.
-- Assumes nothing.
use Prim.Native.Nat.{ℕ, ◌-◌, ◌*◌, ◌≤◌}
use native.Mathlib.Nat.{mul-le-mul}
use native.Mathlib.Omega.{arith}
use Rattle.meaning.specs.Limits.{most_segments}
use Rattle.meaning.specs.Segment.{is_set}
use Rattle.laws.proofs.Counting.{count-le}
use Rattle.histograms.proofs.Histograms.{clean-counted, mixed-counted}
use Rattle.histograms.proofs.count_stretch.Goals as goal

pub returns-then-s-ne0 : goal.returns-then-s-ne0
returns-then-s-ne0 c =
    λ F w-is.
    let r = c.add_to_histogram.ensures in
    mixed-counted F c.args.counts.now c.args.s c.args.mask (λ z. omega arith) _ r.0 r.1

-- the segments before the last have no more rows than there can be
whole-most : (n w : ℕ) → n ≤ most_segments → w ≤ 32 → (n - 1) * w ≤ most_segments * 32
whole-most n w few low = let fewer : n - 1 ≤ most_segments = omega arith in mul-le-mul fewer low

pub overflow_mul-counts : goal.overflow_mul-counts
overflow_mul-counts c = let r = c.requires in record { fits = omega (arith, whole-most c.args.s.least c.args.width r.2 r.3) }

pub overflow_add-counts : goal.overflow_add-counts
overflow_add-counts c =
    let r = c.requires in
    record { fits = omega (arith, whole-most c.args.s.least c.args.width r.2 r.3, c.count.ensures, count-le 32 (is_set c.args.mask)) }

pub overflow_add-counts-2 : goal.overflow_add-counts-2
overflow_add-counts-2 c =
    let r = c.requires in
    record {
      fits =
          omega (
            arith,
            whole-most c.args.s.least c.args.width r.2 r.3,
            c.count.ensures,
            count-le 32 (is_set c.args.mask),
            r.5 c.args.s.ones (omega (arith, r.0)),
          );
    }

pub returns : goal.returns
returns c =
    λ F w-is.
    let a = c.args in
    rw (c.count.ensures, w-is)
    (clean-counted F a.counts.now a.s a.mask c.requires.4 (omega (arith, c.requires.0)) (omega arith))
