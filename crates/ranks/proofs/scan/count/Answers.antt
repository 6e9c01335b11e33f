-- `ranks::scan::count` meets its contract: no index has so many rows.
-- Assumes nothing.
use native.Mathlib.Omega.{arith}
use Rattle.meaning.specs.Index.{row_count}
use Rattle.laws.proofs.Counting.{count-le}
use Rattle.ranks.specs.Found.{rows_level}
use Rattle.ranks.proofs.scan.count.Goals as goal

pub returns : goal.returns
returns c =
    let index = c.args.index.now in
    c.scan.ensures.counted
    (omega (arith, count-le (row_count index) (rows_level index c.args.list.now c.args.value), c.requires.column.facts.head.few-rows))
