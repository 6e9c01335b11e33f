-- `walk::survey::all` meets its contract. The invariant: the survey is that of the places passed.
-- Assumes nothing.
use native.Mathlib.Omega.{arith}
use Rattle.walk.proofs.Weighing.{surveyed-more, surveyed-room}
use Rattle.walk.proofs.survey.all.Goals as goal

pub loop-c-init : goal.loop-c-init
loop-c-init c = c.nothing-s.ensures c.args.cursors.now

pub weigh-s-requires-clause-room : goal.weigh-s-requires-clause-room
weigh-s-requires-clause-room c =
    let l = c.loop-c in
    surveyed-room c.args.cursors.now l.c-index l.s l.invariant (omega (arith, c.loop-c-test.true, c.requires.0)) (λ k h. c.requires.1 k (omega (arith, h, c.loop-c-test.true)))

pub loop-c-preserved : goal.loop-c-preserved
loop-c-preserved c =
    let l = c.loop-c in
    surveyed-more c.args.cursors.now l.c-index l.s l.invariant c.weigh-s.result c.weigh-s.ensures
