-- `archive::rewrite` meets its contract: it measures first, and writes where the buffer has room.
-- Assumes nothing.
use Rattle.archive.proofs.Renewed.{wrote-no-room, wrote-anew}
use mathlib.Core.Path.{refl}
use native.Mathlib.Omega.{arith}
use Rattle.archive.proofs.rewrite.Goals as goal

pub returns-then-room-need : goal.returns-then-room-need
returns-then-room-need c =
    let a = c.args in
    let w = c.measure-need in
    wrote-no-room a.index.now a.to a.out.now _ refl w.result w.ensures
    (omega (arith, c.if-room-need.true, c.room.ensures)) c.no_room.result c.no_room.ensures

pub returns : goal.returns
returns c =
    let a = c.args in
    let w = c.measure-need in
    wrote-anew a.index.now a.to a.out.now _ refl w.result w.ensures
    (omega (arith, c.if-room-need.false, c.room.ensures)) _ c.write.ensures
