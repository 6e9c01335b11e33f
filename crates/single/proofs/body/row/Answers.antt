-- `single::body::row` meets its contract: 8 by `row-past`; else what `body_read::row::row` found. Assumes nothing.
use mathlib.Core.Path.{ap, ◌∙◌}
use Rattle.answers.specs.Told.{refused_by, outcome_of}
use Rattle.single.proofs.Asks.{row-past, row_here}
use Rattle.single.proofs.body.row.Goals as goal

pub returns-then-rows-r : goal.returns-then-rows-r
unfolding outcome_of
returns-then-rows-r c =
    let a = c.args in
    ap refused_by c.bad_argument.ensures ∙ row-past a.format a.rows a.body.now a.r c.if-rows-r.true

pub row-requires : goal.row-requires
row-requires c =
    (c.requires.rows_le_most_rows, c.requires.sound_facts, c.if-rows-r.false)

pub returns : goal.returns
unfolding outcome_of
returns c =
    let a = c.args in
    row_here a.format a.rows a.body.now a.r c.row.result c.if-rows-r.false c.row.ensures
