-- `plain::compress::measure` meets its contract: in each format its own measure. Assumes nothing.
use mathlib.Core.Path.{sym, ap, ◌∙◌}
use lib.ListN.{length}
use Rattle.plain.proofs.PlainWords.{canonical-plain}
use Rattle.plain.proofs.compress.measure.Goals as goal

pub returns-in-Ewah : goal.returns-in-Ewah
returns-in-Ewah c =
    let e = canonical-plain c.args.rows c.args.plain.now c.requires in
    rw c.in-Ewah.is (c.measure.ensures ∙ ap length (sym e))

pub returns-in-Wah : goal.returns-in-Wah
returns-in-Wah c = c.measure-in-Wah.ensures
