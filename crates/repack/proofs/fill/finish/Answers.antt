-- `repack::fill::finish` meets its contract: by `finished-whole`, or `finished-begun` where a word is begun.
-- Assumes nothing.
use Prim.Native.Nat.{◌^◌, ◌≤◌}
use mathlib.Core.Path.{◌∙◌}
use lib.Pow.{pow_mono}
use native.Mathlib.Nat.{mod-eq_of_lt}
use native.Mathlib.Omega.{arith}
use Rattle.repack.proofs.RowsWritten.{finished-whole, finished-begun}
use Rattle.repack.proofs.fill.finish.Goals as goal

pub returns-then-held-eq0 : goal.returns-then-held-eq0
returns-then-held-eq0 c q was l = finished-whole c.args.s q was c.args.out.now l c.requires.1 (omega (arith, c.if-held-eq0.true))

pub returns : goal.returns
returns c q was l =
    let p = c.args.s.packer in
    let most : 2 ^ p.have ≤ 2 ^ 32 = pow_mono {i = p.have} {j = 32} (omega (arith, c.requires.0.few)) in
    finished-begun c.args.s q was c.args.out.now l c.requires.1 _ (λ none. omega (arith, c.if-held-eq0.false))
    (c.lowest.ensures ∙ mod-eq_of_lt (omega (arith, c.requires.0.low)))
