-- `walk::survey::nothing` meets its contract: `surveyed-none`, of any numbers.
-- Assumes nothing.
use Rattle.walk.proofs.Weighing.{surveyed-none}
use Rattle.walk.proofs.survey.nothing.Goals as goal

pub returns : goal.returns
returns c = surveyed-none
