-- `words::bits::count` meets its contract: by `ones-count`, the ones of a word are its set bits.
-- Assumes nothing.
use Rattle.words.proofs.BitLaws.{ones-count}
use Rattle.words.proofs.bits.count.Goals as goal

pub returns : goal.returns
returns c = ones-count 32 c.args.x c.ranges.x.fits
