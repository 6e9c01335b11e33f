-- `column::outside::find` meets its contract. The invariant: the words before i have no row that is looked for.
-- Assumes nothing.
use Prim.Native.Nat.{ℕ, ◌*◌}
use mathlib.Core.Path.{◌≡◌, subst}
use native.Mathlib.Nat.{zero-mul}
use native.Mathlib.Omega.{arith}
use borrow.Author.Rules.{rules}
use lib.ListN.{length}
use mir.Syntax.{w32}
use mir.Val.{Fits}
use Rattle.column.specs.Outside.{NoneBelow}
use Rattle.column.proofs.Lowering.{has-bit, place-low, none_more, lowest-here}
use Rattle.column.proofs.outside.find.Goals as goal

pub loop-i-init : goal.loop-i-init
loop-i-init c = λ p s r h. absurd (omega (arith, zero-mul c.args.width))

pub nth-requires : goal.nth-requires
nth-requires c = let f : Fits w32 c.over-y.result = search rules in has-bit _ f.fits c.if-y-ne0.true

pub overflow_mul-result : goal.overflow_mul-result
overflow_mul-result c =
    let a = c.args in
    omega (arith, place-low a.width c.loop-i.i (length a.slice.now) c.requires.0 c.loop-i-test.true c.requires.1)

pub overflow_add-result : goal.overflow_add-result
overflow_add-result c =
    let a = c.args in
    omega (arith, place-low a.width c.loop-i.i (length a.slice.now) c.requires.0 c.loop-i-test.true c.requires.1, c.nth.ensures.1)

pub returns-then-y-ne0 : goal.returns-then-y-ne0
returns-then-y-ne0 c =
    let a = c.args in
    let i = c.loop-i.i in
    λ p s.
    lowest-here a.width p _ _ (length a.slice.now) i _ s c.loop-i-test.true (c.loop-i.invariant p s)
    (c.over-y.ensures a.width c.requires.0 (s.low i c.loop-i-test.true)) _ c.requires.0 c.if-y-ne0.true c.nth.ensures.0

pub loop-i-preserved : goal.loop-i-preserved
loop-i-preserved c =
    let a = c.args in
    let i = c.loop-i.i in
    λ p s.
    none_more a.width p _ _ (length a.slice.now) i _ s c.loop-i-test.true (c.loop-i.invariant p s)
    (c.over-y.ensures a.width c.requires.0 (s.low i c.loop-i-test.true)) c.if-y-ne0.false

pub returns : goal.returns
returns c =
    let a = c.args in
    let e : c.loop-i.i ≡ length a.slice.now = omega arith in
    λ p s. subst (λ (k : ℕ). NoneBelow (k * a.width) p) e (c.loop-i.invariant p s)
