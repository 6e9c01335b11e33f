-- `plain::compress::write_plain` meets its contract: what surely fits is written, and else it is measured; 9 by `write-none`.
-- Assumes nothing.
use native.Mathlib.Omega.{arith}
use Rattle.meaning.specs.Segment.{has_row}
use Rattle.answers.proofs.Tells.{write-none}
use Rattle.plain.proofs.compress.write_plain.Goals as goal

pub write_fitting-requires : goal.write_fitting-requires
write_fitting-requires c =
    let a = c.args in record {
      plain_rows = c.requires;
      plain_in_bounds = omega (arith, c.most_words.ensures (has_row 32 a.plain.now), c.if-most_words-out.true);
    }

pub returns-then-out-need : goal.returns-then-out-need
returns-then-out-need c =
    let a = c.args in
    let short = c.if-out-need.true in
    write-none a.format a.rows (has_row 32 a.plain.now) a.out.now _ c.measure-need.ensures _ c.no_room.ensures short
