-- `pivots::place::place` meets its contract, by `run-reached` in a run, and else by what `in_block` promises.
-- Assumes nothing.
use Rattle.pivots.proofs.Placing.{run-reached}
use Rattle.pivots.proofs.place.place.Goals as goal

pub returns-then-even : goal.returns-then-even
returns-then-even c F o p e h same = run-reached F o c.args.n p c.args.take (same c.if-even.true)
