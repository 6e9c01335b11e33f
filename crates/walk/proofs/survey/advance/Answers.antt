-- `walk::survey::advance` meets its contract. The invariant: the first i cursors went on, and the survey is theirs.
-- Assumes nothing.
use native.Mathlib.Omega.{arith}
use Rattle.walk.proofs.Weighing.{surveyed-room}
use Rattle.walk.proofs.Places.{going-none, going_more}
use Rattle.walk.proofs.survey.advance.Goals as goal

pub loop-i-init : goal.loop-i-init
loop-i-init c =
    let a = c.args in
    going-none a.format a.index.now a.list.now a.cursors.now a.n c.nothing-s.result (c.nothing-s.ensures a.cursors.now)

pub move_place-s-requires-clause-room : goal.move_place-s-requires-clause-room
move_place-s-requires-clause-room c =
    let l = c.loop-i in
    surveyed-room l.cursors l.i l.s l.invariant.surveyed (omega (arith, c.loop-i-test.true, c.requires.listed.most)) l.invariant.low

pub loop-i-preserved : goal.loop-i-preserved
loop-i-preserved c =
    let l = c.loop-i in
    let a = c.args in
    going_more a.format a.index.now a.list.now a.cursors.now a.n l.cursors l.s l.i l.invariant c.move_place-s.new.c c.move_place-s.result
    (omega (arith, c.loop-i-test.true, l.invariant.long, c.requires.cursors_len)) c.move_place-s.ensures
