-- `ewah::cursor::load` meets its contract. The loop's invariant: the pieces from the marker at word `at` on are those that
-- were asked for.
-- Assumes nothing.
use mathlib.Core.Path.{◌≡◌}
use lib.ListN.{length}
use Rattle.meaning.specs.declared.Format.TheVariants.{Ewah}
use Rattle.ewah.proofs.Pieces.{at-end, on-run, on_none, on-idle}
use native.Mathlib.Omega.{arith}
use Rattle.ewah.proofs.cursor.load.Goals as goal

pub returns-then-m-ne0 : goal.returns-then-m-ne0
returns-then-m-ne0 c = search on-run

pub returns-then-m-ne0-2 : goal.returns-then-m-ne0-2
returns-then-m-ne0-2 c =
    let m = c.read-m in
    let l = c.loop-at in
    let next = on_none c.args.body.now l.at c.loop-at-test.true _ l.invariant m.result m.ensures c.if-m-ne0.false in
    rw next at c.load_dirty.ensures

pub loop-at-preserved : goal.loop-at-preserved
loop-at-preserved c = search on-idle

pub returns : goal.returns
returns c =
    let b = c.args.body.now in
    let e : c.loop-at.at ≡ length b = omega arith in
    rw (rw e at c.loop-at.invariant) at (at-end Ewah b (length b) 0 (omega arith) (omega arith))
