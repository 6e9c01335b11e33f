-- `block_read::take_spans` meets its contract. The invariant: `done` segments are taken.
-- Assumes nothing.
use Prim.Native.Nat.{◌+◌, ◌-◌}
use mathlib.Core.Path.{◌∙◌}
use Rattle.block_read.proofs.Joining.{span-here, taken_more, part-length, part-long}
use native.Mathlib.Omega.{arith}
use Rattle.block_read.proofs.take_spans.Goals as goal

pub take_span-d-requires : goal.take_span-d-requires
take_span-d-requires c =
    let l = c.loop-done in
    let h = c.requires.has_ahead in
    let g = l.invariant.1.goes in
    let here = span-here l.invariant.1 h (omega arith) in
    let long = part-length l.row l.done (l.done + c.min.result) (omega arith) (omega arith) in record {
      in_order = g.in_order;
      has_ahead = (h.0 + l.done, g.on h.0 h.1, omega (arith, h.2, long));
      le_n = (omega (arith, here, long), omega (arith, long));
    }

pub loop-done-smaller : goal.loop-done-smaller
loop-done-smaller c =
    let l = c.loop-done in
    let d = c.take_span-d in
    let here = span-here l.invariant.1 c.requires.has_ahead (omega arith) in
    let long = part-length l.row l.done (l.done + c.min.result) (omega arith) (omega arith) in
    omega (arith, here, part-long l.row d.new.row l.done (l.done + c.min.result - l.done) (omega arith) (d.auto.row ∙ long))

pub loop-done-preserved : goal.loop-done-preserved
loop-done-preserved c =
    let l = c.loop-done in
    let d = c.take_span-d in
    let end = l.done + c.min.result in
    let long = part-length l.row l.done end (omega arith) (omega arith) in (
      omega (arith, part-long l.row d.new.row l.done (end - l.done) (omega arith) (d.auto.row ∙ long)),
      taken_more l.done l.row l.c end _ d.new.row d.result (omega arith) (omega arith) long d.auto.row
          l.invariant.1 d.ensures,
    )
