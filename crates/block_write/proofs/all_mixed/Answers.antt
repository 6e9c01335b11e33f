-- `block_write::all_mixed` meets its contract: each word was tested.
-- Assumes nothing.
use borrow.Author.Rules.{rules}
use Rattle.block_write.proofs.Rowing.{all-mixed}
use Rattle.block_write.proofs.all_mixed.Goals as goal

pub returns : goal.returns
returns c = λ e. all-mixed c.args.words.now (λ k h. search rules)
