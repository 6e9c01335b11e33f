-- `column::digit` meets its contract.
-- Assumes nothing.
use borrow.Author.Rules.{rules}
use Rattle.meaning.specs.Rows.{bit}
use Rattle.column.proofs.digit.Goals as goal

pub returns : goal.returns
unfolding bit
returns c = search rules
