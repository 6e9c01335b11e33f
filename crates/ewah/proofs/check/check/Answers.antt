-- `ewah::check::check` meets its contract. Where the loop stands, the faults of the rest are those of the body. Assumes nothing.
use borrow.Author.Rules.{rules}
use borrow.Author.Tests.{lt-ltb, le-ltb}
use native.Mathlib.Omega.{arith}
use Prim.Native.Nat.{◌+◌}
use mathlib.Core.Path.{◌≡◌, sym, ◌∙◌}
use Rattle.meaning.specs.Refusal.{refuse_if}
use Rattle.meaning.specs.Ewah.{ewah_fault}
use Rattle.answers.specs.Told.{outcome_of}
use Rattle.std.proofs.lemmas.Result.{err_from_is_err_and}
use Rattle.ewah.proofs.Steps.{passed-of, wrong-inside, faulty-of, end-fault}
use Rattle.ewah.proofs.check.check.Goals as goal

pub loop-rest-init : goal.loop-rest-init
unfolding ewah_fault
loop-rest-init c =
    let z : c.args.start + 0 ≡ c.args.start = omega arith in
    (omega arith, omega arith, rw (z, c.segment_count.ensures))

pub map_err-requires : goal.map_err-requires
map_err-requires c = λ e h κs ns x f g u. omega (arith, wrong-inside _ _ _ _ c.marker_step.ensures e h, c.requires.body_bound)

pub loop-rest-smaller : goal.loop-rest-smaller
loop-rest-smaller c =
    let p = passed-of _ _ _ _ c.marker_step.ensures _ _ c.map_err.ensures.cases _ c.in_ok-rest.was in
    omega (arith, p.on, p.inside)

pub returns-in_err-rest : goal.returns-in_err-rest
unfolding outcome_of
returns-in_err-rest c =
    let a = c.args in
    let p = err_from_is_err_and c.from_residual.result c.from_residual.ensures.1 in
    let told = faulty-of _ _ _ _ c.marker_step.ensures _ _ c.map_err.ensures.cases _ c.in_err-rest.was a.bitmap a.start (λ wrong q. search rules) in
    rw (p.1, p.2) (sym told ∙ c.loop-rest.invariant.2)

pub loop-rest-preserved : goal.loop-rest-preserved
loop-rest-preserved c =
    let l = c.loop-rest in
    let a = c.args in
    let p = passed-of _ _ _ _ c.marker_step.ensures _ _ c.map_err.ensures.cases _ c.in_ok-rest.was in
    (p.inside, omega (arith, p.fewer), sym (p.same a.bitmap a.start) ∙ l.invariant.2)

pub returns-then-rest-gt0 : goal.returns-then-rest-gt0
unfolding outcome_of refuse_if
returns-then-rest-gt0 c =
    let l = c.loop-rest in
    let a = c.args in
    rw c.told.ensures (rw (lt-ltb 0 l.rest.left c.if-rest-gt0.true) at (sym (end-fault a.bitmap a.rows (a.start + l.rest.at) l.rest.left l.rest.at a.body.now c.loop-rest-test.false) ∙ l.invariant.2))

pub returns : goal.returns
unfolding outcome_of refuse_if
returns c =
    let l = c.loop-rest in
    let a = c.args in
    rw (le-ltb 0 l.rest.left c.if-rest-gt0.false) at (sym (end-fault a.bitmap a.rows (a.start + l.rest.at) l.rest.left l.rest.at a.body.now c.loop-rest-test.false) ∙ l.invariant.2)
