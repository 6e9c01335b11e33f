-- `wah::word::size` meets its contract: a fill has its count of segments, a literal one. Assumes nothing.
use mathlib.Core.Path.{sym, ◌∙◌}
use Rattle.wah.proofs.Spelled.{fill-size, literal-size}
use Rattle.wah.proofs.word.size.Goals as goal

pub returns-then-is_fill : goal.returns-then-is_fill
returns-then-is_fill c = c.read.ensures.count-is ∙ sym (fill-size c.args.x (sym c.is_fill.ensures ∙ c.if-is_fill.true))

pub returns-else-is_fill : goal.returns-else-is_fill
returns-else-is_fill c = sym (literal-size c.args.x (sym c.is_fill.ensures ∙ c.if-is_fill.false))
