-- `extend::store` meets its contract: `feed`'s, for the buffer. Assumes nothing.
use borrow.Author.Rules.{rules}
use Rattle.extend.proofs.store.Goals as goal

pub returns : goal.returns
returns c R q old b = let h = c.feed.ensures.rewritten R q old b in search rules
