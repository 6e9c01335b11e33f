-- `ewah_read::row::locate` meets its contract. The invariant is `Seeks`: the walk stands at a marker, and the segment is so many ahead.
-- Assumes nothing.
use native.Mathlib.Omega.{arith}
use Rattle.ewah.proofs.Taking.{left-none}
use Rattle.ewah_read.proofs.Locating.{found-run, found_word, seeks-next}
use Rattle.ewah_read.proofs.row.locate.Goals as goal

pub returns-then-ahead-m : goal.returns-then-ahead-m
returns-then-ahead-m c =
    found-run c.loop-m.invariant c.in-Some.ensures.steps c.if-ahead-m.true c.segment-word.result c.segment-word.ensures

pub returns-then-behind-m : goal.returns-then-behind-m
returns-then-behind-m c =
    found_word c.loop-m.invariant c.in-Some.ensures.steps c.if-ahead-m.false c.if-behind-m.true

pub loop-m-preserved : goal.loop-m-preserved
loop-m-preserved c =
    seeks-next c.loop-m.invariant c.in-Some.ensures.steps c.if-ahead-m.false c.if-behind-m.false

pub unreachable-requires : goal.unreachable-requires
unreachable-requires c =
    omega (arith, left-none c.loop-m.invariant.left c.in-None.ensures.steps.0)
