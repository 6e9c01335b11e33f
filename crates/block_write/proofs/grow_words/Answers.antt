-- `block_write::grow_words` meets its contract.
-- Assumes nothing.
use Rattle.block_write.proofs.Joining.{joined-many}
use Rattle.block_write.proofs.grow_words.Goals as goal

pub returns : goal.returns
returns c =
    joined-many c.args.w c.args.m c.requires.0 c.requires.1
