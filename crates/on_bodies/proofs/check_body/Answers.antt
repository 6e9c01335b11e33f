-- `on_bodies::check_body` meets its contract: `rows-over` for too many rows; else `rows-fine`, of what `bodies::check::check` found. Assumes nothing.
use mathlib.Core.Path.{ap, ◌∙◌}
use Rattle.answers.specs.Told.{refused_by, outcome_of}
use Rattle.on_bodies.proofs.Alone.{rows-over, rows-fine}
use Rattle.on_bodies.proofs.check_body.Goals as goal

pub returns-then-rows-gt-MOST_ROWS : goal.returns-then-rows-gt-MOST_ROWS
unfolding outcome_of
returns-then-rows-gt-MOST_ROWS c =
    let a = c.args in
    ap refused_by c.too_many_rows.ensures ∙ rows-over a.format a.rows a.body.now c.if-rows-gt-MOST_ROWS.true

pub returns : goal.returns
returns c = search rows-fine
