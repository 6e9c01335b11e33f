-- `repack::packer::take` meets its contract: by `split`, remainder and quotient by 2 ^ w split the rows.
-- Assumes nothing.
use mathlib.Core.Path.{refl}
use Rattle.repack.proofs.Joining.{split}
use Rattle.repack.proofs.packer.take.Goals as goal

pub returns : goal.returns
returns c = split c.args.p c.requires.2 c.args.w _ c.requires.1 refl c.lowest.ensures refl
