-- `column::outside::over` meets its contract, by the bits of `&` and `!`.
-- Assumes nothing.
use Rattle.column.proofs.Lowering.{over-bits}
use borrow.Author.Rules.{rules}
use Rattle.column.proofs.outside.over.Goals as goal

pub returns : goal.returns
returns c = over-bits c.args.x c.args.e (search rules)
