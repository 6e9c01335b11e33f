-- `repack::packer::lowest` meets its contract: by `masked`, the mask keeps the remainder by 2 ^ n. Assumes nothing.
use native.Mathlib.Omega.{arith}
use lib.Pow.{pow_pos}
use Rattle.words.proofs.BitLaws.{one_shifted}
use Rattle.repack.proofs.Joining.{masked, lowest-fits}
use Rattle.repack.proofs.packer.lowest.Goals as goal

pub overflow_sub-result : goal.overflow_sub-result
overflow_sub-result c = let n = c.args.n in omega (arith, one_shifted 64 n (omega arith), pow_pos n)

pub overflow_cast-result-2 : goal.overflow_cast-result-2
overflow_cast-result-2 c =
    let a = c.args in
    record { fits = rw (masked a.word a.n c.requires) (lowest-fits a.word a.n c.requires) }

pub returns : goal.returns
returns c = masked c.args.word c.args.n c.requires
