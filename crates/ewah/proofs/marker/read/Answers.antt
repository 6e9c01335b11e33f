-- `ewah::marker::read` meets its contract: each mask is a remainder. Assumes nothing.
use Prim.Native.Nat.{◌/◌}
use lib.Bits.{and_mask}
use native.Mathlib.Omega.{arith}
use Rattle.meaning.specs.Ewah.{value_of, clean_of, dirty_of}
use Rattle.ewah.proofs.marker.read.Goals as goal

pub returns : goal.returns
unfolding value_of clean_of dirty_of
returns c =
    let m = c.args.m in
    let v = and_mask m 1 in
    let k = and_mask (m / 2) 16 in
    let f = c.ranges.m.fits in
    record {
      value-is = v;
      clean_is = k;
      dirty-is = omega arith;
      in-range = record { value_low = omega arith; clean-low = omega arith; dirty-low = omega arith };
    }
