-- `repack::fill::put_run` meets its contract: by `put-join`, three steps are one. Assumes nothing.
use Prim.Native.Nat.{ℕ, ◌-◌}
use mathlib.Core.Bool.{Bool}
use mathlib.Core.Path.{refl}
use lib.Bits.{and_mask}
use lib.Dec.{eqb}
use native.Mathlib.Omega.{arith}
use Rattle.repack.proofs.RowsPut.{put-join}
use Rattle.repack.proofs.fill.put_run.Goals as goal

pub put_part-requires-2 : goal.put_part-requires-2
put_part-requires-2 c =
    let whole = c.put_whole-b.ensures in
    let first = c.put_part-a.ensures in
    let m = and_mask (c.args.n - (32 - c.args.s.packer.have)) 5 in
    (whole.ready, c.requires.1, omega (arith, m), omega (arith, m, whole.rows, whole.long, first.rows, first.long))

pub returns : goal.returns
returns c =
    let third = c.put_part-2.ensures in
    let whole = c.put_whole-b.ensures in
    let a = c.args in
    let f : ℕ → Bool = λ j. eqb a.value 1 in
    let m = and_mask (a.n - (32 - a.s.packer.have)) 5 in
    put-join {f = f} (omega (arith, m)) (put-join {f = f} refl c.put_part-a.ensures whole) third
