-- `repack::plain::pair` meets its contract: by `plain-pair`; past the last word stands 0. Assumes nothing.
use Prim.Native.Nat.{◌+◌}
use mathlib.Core.Path.{◌≡◌}
use lib.ListN.{get_or, get_or-eq_default}
use lib.Pow.{shl_exact}
use native.Mathlib.Omega.{arith}
use Rattle.repack.proofs.PlainSegments.{plain-pair}
use Rattle.repack.proofs.plain.pair.Goals as goal

pub returns-then-plain-k-eq1 : goal.returns-then-plain-k-eq1
returns-then-plain-k-eq1 c =
    let xs = c.args.plain.now in
    let k = c.args.k in
    let none : get_or xs (k + 1) 0 ≡ 0 = get_or-eq_default xs 0 (omega (arith, c.if-plain-k-eq1.true)) in
    let fits = (c.shared_slice_known-2-1.given k).fits in
    omega (arith, c.wide-low.ensures.0, none, plain-pair xs k fits (omega (arith, none)))

pub returns : goal.returns
returns c =
    let xs = c.args.plain.now in
    let k = c.args.k in
    let known = c.shared_slice_known-3-1.given in
    let low = c.wide-low.ensures.0 in
    let high = shl_exact {a = c.wide.result} 32 32 64 c.wide.ensures.1 (omega arith) in
    omega (arith, low, high, c.wide.ensures.0, plain-pair xs k (known k).fits (known (k + 1)).fits)
