-- `words::bits::has` meets its contract: by `mask-test`, what a mask of one bit keeps is 0 unless that bit is set.
-- Assumes nothing.
use Rattle.words.proofs.BitLaws.{mask-test}
use Rattle.words.proofs.bits.has.Goals as goal

pub returns : goal.returns
returns c = mask-test 32 c.args.x c.args.j c.requires
