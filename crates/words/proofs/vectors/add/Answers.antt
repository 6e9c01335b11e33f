-- `words::vectors::add` meets its contract, by `added-all`. Assumes nothing.
use mathlib.Core.Path.{◌≡◌}
use lib.ListN.{replicate}
use Rattle.words.proofs.Adders.{added-all}
use native.Mathlib.Omega.{arith}
use Rattle.words.proofs.vectors.add.Goals as goal

pub returns : goal.returns
returns g c =
    let h = c.loop-w in
    let a = c.args in
    let w-is : h.w ≡ g.row.N = omega arith in
    added-all g.row.N a.a a.b a.c (replicate g.row.N 0) h.digits h.carries
    (rw w-is at h.invariant.0) (rw w-is at h.invariant.1)
