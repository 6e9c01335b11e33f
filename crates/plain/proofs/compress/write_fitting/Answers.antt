-- `plain::compress::write_fitting` meets its contract: what was written, by `write-told`. Assumes nothing.
use native.Mathlib.Omega.{arith}
use Rattle.meaning.specs.Segment.{has_row}
use Rattle.plain.proofs.Buffers.{write-told}
use Rattle.plain.proofs.compress.write_fitting.Goals as goal

pub returns : goal.returns
returns c =
    let a = c.args in
    let x = c.compress in
    write-told a.format a.rows (has_row 32 a.plain.now) a.out.now x.result x.new.out
    x.ensures.0 (omega (arith, x.ensures.0, c.requires.plain_in_bounds)) x.ensures.1
