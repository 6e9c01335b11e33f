-- `plain::expand::plain` meets its contract: 9 by `plain-none`, else the plain words by `plain-words`. Assumes nothing.
use native.Mathlib.Omega.{arith}
use Rattle.meaning.specs.Format.{rows_of}
use Rattle.plain.proofs.Buffers.{plain-none, plain-words}
use Rattle.plain.proofs.expand.plain.Goals as goal

pub returns-then-out-need : goal.returns-then-out-need
returns-then-out-need c =
    let a = c.args in
    let need = c.segment_count-need.ensures in
    plain-none a.rows (rows_of a.format a.body.now) a.out.now _ need _ c.no_room.ensures c.if-out-need.true

pub expand-requires : goal.expand-requires
expand-requires c =
    (c.requires.rows_le_most_rows, c.requires.sound_facts, omega (arith, c.segment_count-need.ensures, c.if-out-need.false))

pub returns : goal.returns
returns c =
    let a = c.args in
    let x = c.expand in
    let room = c.if-out-need.false in
    let need = c.segment_count-need.ensures in
    plain-words a.rows (rows_of a.format a.body.now) a.out.now _ need x.new.out room x.ensures
