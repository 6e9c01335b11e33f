-- `block_write::clean_value` meets its contract.
-- Assumes nothing.
use Rattle.block_write.proofs.Rowing.{value-of}
use Rattle.block_write.proofs.clean_value.Goals as goal

pub returns : goal.returns
returns c = value-of c.args.x c.from.result c.from.ensures
