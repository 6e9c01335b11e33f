-- `extent::last_row` meets its contract. Assumes nothing.
use native.Mathlib.Omega.{arith}
use Rattle.extent.proofs.last_row.Goals as goal

pub returns-then-rows-end : goal.returns-then-rows-end
returns-then-rows-end c = omega arith

pub returns : goal.returns
returns c = omega arith
