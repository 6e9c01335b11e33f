-- `body_read::count::count` meets its contract: by the format, its own count.
-- Assumes nothing.
use mathlib.Core.Path.{ap, ◌∙◌}
use Rattle.meaning.specs.Rows.{count_below}
use Rattle.body_read.proofs.Either.{rows-ewah, rows-wah}
use Rattle.body_read.proofs.count.count.Goals as goal

pub returns-in-Ewah : goal.returns-in-Ewah
returns-in-Ewah c =
    let a = c.args in
    c.count.ensures
    ∙ ap (count_below a.rows) (rows-ewah a.format a.body.now c.in-Ewah.is)

pub returns-in-Wah : goal.returns-in-Wah
returns-in-Wah c =
    let a = c.args in
    c.count-in-Wah.ensures
    ∙ ap (count_below a.rows) (rows-wah a.format a.body.now c.in-Wah.is)
