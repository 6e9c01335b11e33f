-- `repack::packer::add` meets its contract: by `added`, with the rows of x shifted behind those held.
-- Assumes nothing.
use Prim.Native.Nat.{ℕ, ◌+◌, ◌^◌, ◌≤◌}
use mathlib.Core.Path.{refl, ap}
use lib.Pow.{pow_mono, shl_exact}
use native.Mathlib.Omega.{arith}
use Rattle.repack.proofs.Joining.{joined-low, added}
use Rattle.repack.proofs.packer.add.Goals as goal

pub overflow_add-result : goal.overflow_add-result
overflow_add-result c =
    let a = c.args in
    let e = shl_exact {a = a.x} a.k a.p.have 64 c.requires.3 (omega arith) in
    let m : 2 ^ (a.p.have + a.k) ≤ 2 ^ 64 = pow_mono {i = a.p.have + a.k} {j = 64} (omega arith) in
    record { fits = omega (arith, e, joined-low a.p.word a.x a.p.have a.k c.requires.1 c.requires.3) }

pub returns : goal.returns
returns c =
    let a = c.args in
    let e = shl_exact {a = a.x} a.k a.p.have 64 c.requires.3 (omega arith) in
    added a.p c.requires.1 a.x a.k _ c.requires.3 refl (ap (λ (z : ℕ). a.p.word + z) e)
