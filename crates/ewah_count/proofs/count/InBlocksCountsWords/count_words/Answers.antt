-- `ewah_count::count::InBlocks`'s `count_words` meets its contract: of no words none are set; else what was counted. Assumes nothing.
use mathlib.Core.Path.{sym}
use Rattle.ewah_count.proofs.Passing.{none-set}
use Rattle.ewah_count.proofs.count.InBlocksCountsWords.count_words.Goals as goal

pub returns-then-ws-eq0 : goal.returns-then-ws-eq0
returns-then-ws-eq0 c = sym (none-set c.args.ws.now c.if-ws-eq0.true)
