-- `block_write::emit_each` meets its contract: a word more by `emitted-next`, and the last by `emitted-last`.
-- Assumes nothing.
use Prim.Native.Nat.{◌-◌}
use mathlib.Core.Path.{◌≡◌, ◌∙◌}
use lib.ListN.{length}
use lib.Seq.{get_or-take, length-take-le}
use Rattle.meaning.specs.Segment.{all_set}
use Rattle.meaning.specs.Format.{width}
use Rattle.block_write.proofs.Rowing.{room_next, emitted-next, emitted-last}
use native.Mathlib.Omega.{arith}
use Rattle.block_write.proofs.emit_each.Goals as goal

pub emit_segment-r-requires-clause-room_for : goal.emit_segment-r-requires-clause-room_for
emit_segment-r-requires-clause-room_for c =
    λ e.
    let l = c.loop-x in
    let words = c.args.words.now in
    let long = length-take-le (length words - 1) words (omega arith) in
    let here = get_or-take (length words - 1) words l.x-index 0 (omega (arith, long)) in
    rw (here, l.invariant.0) (room_next c.args.format words l.x-index (omega (arith, long)) (c.requires.room_for e) l.invariant.1.grown)

pub loop-x-preserved : goal.loop-x-preserved
unfolding all_set
loop-x-preserved c =
    let l = c.loop-x in
    let p = c.emit_segment-r in
    let F = c.args.format in
    let words = c.args.words.now in
    let long = length-take-le (length words - 1) words (omega arith) in
    let here = get_or-take (length words - 1) words l.x-index 0 (omega (arith, long)) in (
      p.auto.out ∙ l.invariant.0,
      emitted-next F words l.x-index (omega (arith, long)) c.requires.growing l.invariant.1
          (rw here at (p.ensures (width F) c.full-full.ensures)),
    )

pub returns : goal.returns
returns c =
    λ real e.
    let l = c.loop-x in
    let words = c.args.words.now in
    let long = length-take-le (length words - 1) words (omega arith) in
    let at : l.x-index ≡ length words - 1 = omega (arith, long) in
    emitted-last c.args.format words l.x-index (omega (arith, at)) c.requires.growing l.invariant.1 (rw (← at) at (c.emit_segment.ensures real e))
