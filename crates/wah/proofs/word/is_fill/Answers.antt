-- `wah::word::is_fill` meets its contract, by `top_bit`. Assumes nothing.
use Rattle.wah.proofs.Spelled.{top_bit}
use Rattle.wah.proofs.word.is_fill.Goals as goal

pub returns : goal.returns
returns c = top_bit c.args.x
