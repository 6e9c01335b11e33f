-- `index::check::check_bodies` meets its contract. The loop's invariant: the first fault of the bodies from k on is that of all bodies. Assumes nothing.
use Rattle.index.proofs.EntrySteps.{fault-of, bodies-next, bodies-fault, bodies-end}
use mathlib.Core.Path.{ap}
use Rattle.answers.specs.Told.{outcome_of}
use Rattle.std.proofs.lemmas.Result.{err_from_is_err_and}
use Rattle.index.proofs.check.check_bodies.Goals as goal

pub returns-in_err-check_body : goal.returns-in_err-check_body
unfolding outcome_of
returns-in_err-check_body c =
    let l = c.loop-k in
    let p = err_from_is_err_and c.from_residual.result c.from_residual.ensures.1 in
    let e = fault-of c.args.index.now l.k _ _ _ c.rows-rows.ensures c.check_body.ensures (ap outcome_of c.in_err-check_body.was) in
    rw (p.1, p.2) (bodies-fault c.args.index.now _ l.k _ l.invariant c.loop-k-test.true _ _ _ e)

pub loop-k-preserved : goal.loop-k-preserved
unfolding outcome_of
loop-k-preserved c =
    let l = c.loop-k in
    let e = fault-of c.args.index.now l.k _ _ _ c.rows-rows.ensures c.check_body.ensures (ap outcome_of c.in_ok-check_body.was) in
    bodies-next c.args.index.now _ l.k _ l.invariant c.loop-k-test.true e

pub returns : goal.returns
unfolding outcome_of
returns c = bodies-end c.args.index.now _ c.loop-k.k _ c.loop-k.invariant c.loop-k-test.false
