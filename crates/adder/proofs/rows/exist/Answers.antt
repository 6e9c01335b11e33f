-- `adder::rows::exist` meets its contract: by `existing`, the row put is what exists in both.
-- Assumes nothing.
use Rattle.adder.proofs.Filling.{existing}
use Rattle.adder.proofs.rows.exist.Goals as goal

pub returns : goal.returns
returns c =
    let put = c.put_both in
    let second = c.part-2 in
    let first = c.part in
    existing first.ensures second.ensures put.ensures c.requires.2 c.part-3.ensures
