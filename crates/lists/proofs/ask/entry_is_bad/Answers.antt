-- `lists::ask::entry_is_bad` meets its contract: an entry is bad where it is 2 or more. Assumes nothing.
use mathlib.Core.Path.{◌∙◌}
use Rattle.lists.proofs.Large.{any-bad-entry}
use Rattle.lists.proofs.ask.entry_is_bad.Goals as goal

pub returns : goal.returns
returns c = c.any_from.ensures ∙ any-bad-entry c.args.table.now
