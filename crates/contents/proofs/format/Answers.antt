-- `contents::format` meets its contract: a word that states no format counts as EWAH's. Assumes nothing.
use mathlib.Core.Path.{◌∙◌}
use Rattle.contents.proofs.Stated.{told}
use Rattle.contents.proofs.format.Goals as goal

pub returns : goal.returns
returns c = c.unwrap_or.ensures ∙ told c.args.index.now c.try_from.result c.try_from.ensures
