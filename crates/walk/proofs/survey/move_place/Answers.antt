-- `walk::survey::move_place` meets its contract: by `moved`, the cursor stands n segments on; within a run that goes on it does by
-- `run-shorter`.
-- Assumes nothing.
use mathlib.Core.Path.{refl}
use Rattle.meaning.specs.Index.{body_at}
use Rattle.bodies.proofs.Advancing.{run-shorter}
use Rattle.walk.proofs.Places.{moved}
use Rattle.walk.proofs.survey.move_place.Goals as goal

pub returns-then-n-left : goal.returns-then-n-left
returns-then-n-left c =
    let a = c.args in
    let r = c.requires in
    let b = body_at a.index.now a.k in
    moved a.format b b a.c.now a.n a.s c.weigh.result _ refl r.k_bound.1 r.k_bound.2
    (run-shorter a.format b a.c.now a.n r.k_bound.1 r.k_bound.2 r.in_order _ _ c.in-Clean.is c.if-n-left.true) c.weigh.ensures

pub returns : goal.returns
returns c =
    let a = c.args in
    rw c.put.ensures (moved a.format (body_at a.index.now a.k) c.body.result.now a.c.now a.n a.s c.weigh-2.result c.advance-d.result
    c.body.ensures.result_value c.requires.k_bound.1 c.requires.k_bound.2 c.advance-d.ensures c.weigh-2.ensures)
