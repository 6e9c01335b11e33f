-- `text::lines::push` meets its contract.
-- Assumes nothing.
use Rattle.std.proofs.Common.{arith, append_assoc}
use Rattle.text.specs.Lines.{line}
use Rattle.text.proofs.Decimals.{decimal-is}
use Rattle.text.proofs.lines.push.Goals as goal

pub returns : goal.returns
unfolding line
returns g c = rw (c.push.ensures.ascii (omega arith), c.push_str.ensures.bytes, c.format.ensures.text, decimal-is c.args.row (omega (arith, c.ranges.row.fits))) (append_assoc c.args.out.now.bytes _ _)
