-- `on_bodies::body_count` meets its contract: the check's refusal, by `count-refused`; or, by `count-answered`, a sound
-- body that `body_read::count::count` counts. Assumes nothing.
use Rattle.on_bodies.proofs.Alone.{count-refused, countable, count-answered}
use Rattle.on_bodies.proofs.body_count.Goals as goal

pub count-requires : goal.count-requires
count-requires c = countable _ _ _ _ c.check_body.ensures c.in_ok-check_body.was

pub returns-in_err-check_body : goal.returns-in_err-check_body
returns-in_err-check_body c = count-refused _ _ _ _ c.check_body.ensures c.from_residual.result _ c.in_err-check_body.was c.from_residual.ensures.1

pub returns : goal.returns
returns c =
    let e = c.check_body.ensures in
    count-answered _ _ _ _ e c.in_ok-check_body.was _ c.count.ensures
