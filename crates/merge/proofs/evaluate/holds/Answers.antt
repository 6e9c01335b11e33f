-- `merge::evaluate::holds` meets its contract: in each case of the operation its test is that of `chosen`.
-- Assumes nothing.
use Rattle.merge.specs.Operations.{chosen}
use Rattle.merge.proofs.evaluate.holds.Goals as goal

pub returns-in-AtLeast : goal.returns-in-AtLeast
unfolding chosen
returns-in-AtLeast c = rw c.in-AtLeast.is

pub returns-in-Exactly : goal.returns-in-Exactly
unfolding chosen
returns-in-Exactly c = rw c.in-Exactly.is

pub returns-in-Table : goal.returns-in-Table
unfolding chosen
returns-in-Table c = rw c.in-Table.is c.entry_is_one.ensures
