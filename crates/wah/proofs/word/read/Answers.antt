-- `wah::word::read` meets its contract: each mask is a remainder. Assumes nothing.
use Prim.Native.Nat.{◌/◌}
use lib.Bits.{and_mask}
use native.Mathlib.Omega.{arith}
use Rattle.meaning.specs.Wah.{fill_value, fill_count}
use Rattle.wah.proofs.word.read.Goals as goal

pub returns : goal.returns
unfolding fill_value fill_count
returns c =
    let x = c.args.x in
    let v = and_mask (x / 1073741824) 1 in
    let n = and_mask x 30 in
    record { value-is = v; count-is = n; value_low = omega arith; count_low = omega arith }
