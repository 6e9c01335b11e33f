-- `repack::fill::store` meets its contract. The invariant: the words before i are as they are to be. Assumes nothing.
use Prim.Native.Nat.{ℕ}
use mathlib.Core.Path.{◌≡◌, subst}
use lib.ListN.{length-set}
use native.Mathlib.Omega.{arith}
use borrow.Author.Rules.{rules}
use Rattle.repack.specs.Filling.{Stored}
use Rattle.repack.proofs.RowsPut.{stored-none, stored_next}
use Rattle.repack.proofs.fill.store.Goals as goal

pub loop-i-init : goal.loop-i-init
loop-i-init c = let a = c.args in (omega arith, omega arith, search rules, stored-none a.x a.from a.out.now)

pub loop-i-preserved : goal.loop-i-preserved
loop-i-preserved c =
    let h = c.loop-i in
    let a = c.args in (
      omega arith,
      omega arith,
      simp length-set (omega arith),
      stored_next a.x a.from a.out.now h.out h.i h.invariant.0 (omega arith) h.invariant.3,
    )

pub returns : goal.returns
returns c =
    let h = c.loop-i in
    let a = c.args in
    let e : h.i ≡ a.to = omega arith in
    subst (λ (n : ℕ). Stored a.x a.from a.out.now h.out n) e h.invariant.3
