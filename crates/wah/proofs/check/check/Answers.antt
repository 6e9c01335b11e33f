-- `wah::check::check` meets its contract. Where the loop stands, the faults of the rest are those of the body. Assumes nothing.
use borrow.Author.Rules.{rules}
use borrow.Author.Tests.{lt-ltb, le-ltb}
use native.Mathlib.Omega.{arith}
use lib.ListN.{length}
use Prim.Native.Nat.{◌+◌}
use mathlib.Core.Path.{◌≡◌, sym, ◌∙◌}
use Rattle.meaning.specs.Refusal.{refuse_if}
use Rattle.meaning.specs.Wah.{wah_fault}
use Rattle.answers.specs.Told.{outcome_of}
use Rattle.std.proofs.lemmas.Result.{err_from_is_err_and}
use Rattle.wah.proofs.Steps.{passed-of, faulty-of, passed-at, faulty-at, end-fault}
use Rattle.wah.proofs.check.check.Goals as goal

pub loop-at-init : goal.loop-at-init
unfolding wah_fault
loop-at-init c =
    let z : c.args.start + 0 ≡ c.args.start = omega arith in
    (omega arith, rw (z, c.segments-left.ensures))

pub returns-in_err-left : goal.returns-in_err-left
unfolding outcome_of
returns-in_err-left c =
    let l = c.loop-at in
    let a = c.args in
    let p = err_from_is_err_and c.from_residual.result c.from_residual.ensures.1 in
    let told = faulty-of _ _ _ _ c.word_step.ensures _ _ c.map_err.ensures.cases _ c.in_err-left.was a.bitmap (a.start + l.at-counter) (λ fault q. search rules) in
    rw (p.1, p.2) (sym (faulty-at a.body.now a.rows l.left l.at-counter c.loop-at-test.true a.bitmap a.start _ told) ∙ l.invariant.1)

pub loop-at-preserved : goal.loop-at-preserved
loop-at-preserved c =
    let l = c.loop-at in
    let a = c.args in
    let p = passed-of _ _ _ _ c.word_step.ensures _ _ c.map_err.ensures.cases _ c.in_ok-left.was in
    let same = passed-at a.body.now a.rows l.left l.at-counter c.loop-at-test.true a.bitmap a.start _ p in
    (omega (arith, p.fewer), sym same ∙ l.invariant.1)

pub returns-then-left-gt0 : goal.returns-then-left-gt0
unfolding outcome_of refuse_if
returns-then-left-gt0 c =
    let l = c.loop-at in
    let a = c.args in
    let e : l.at-counter ≡ length a.body.now = omega (arith, c.loop-at-test.false, l.auto.at-counter-end) in
    rw c.refused.ensures (rw (e, lt-ltb 0 l.left c.if-left-gt0.true) at (sym (end-fault a.bitmap a.rows (a.start + l.at-counter) l.left l.at-counter a.body.now c.loop-at-test.false) ∙ l.invariant.1))

pub returns : goal.returns
unfolding outcome_of refuse_if
returns c =
    let l = c.loop-at in
    let a = c.args in
    rw (le-ltb 0 l.left c.if-left-gt0.false) at (sym (end-fault a.bitmap a.rows (a.start + l.at-counter) l.left l.at-counter a.body.now c.loop-at-test.false) ∙ l.invariant.1)
