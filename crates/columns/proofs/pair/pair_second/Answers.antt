-- `columns::pair::pair_second` meets its contract: 11 of the second column, then what is written.
-- Assumes nothing.
use lib.ListN.{length}
use Rattle.column_meaning.specs.Columns.{write_pair}
use Rattle.answers.proofs.Tells.{wrote-stopped, wrote_then}
use Rattle.columns.proofs.Asking.{good-column}
use native.Mathlib.Omega.{arith}
use Rattle.columns.proofs.pair.pair_second.Goals as goal

pub strays-requires : goal.strays-requires
strays-requires c =
    let g = good-column _ _ _ c.requires.second_value in record {
      index_facts = c.requires.index_facts;
      least_column_in_bounds = (g.0, omega (arith, g.1), g.2);
    }

pub returns-in_err-strays : goal.returns-in_err-strays
returns-in_err-strays c =
    let a = c.args in
    wrote-stopped _ _ (write_pair a.index.now a.op a.first.now a.second.now (length a.out.now)) _ _ _ c.strays.ensures c.in_err-strays.was c.from_residual.ensures.1

pub returns : goal.returns
returns c =
    let a = c.args in
    wrote_then c.strays.result _ (write_pair a.index.now a.op a.first.now a.second.now (length a.out.now)) c.write_pair.result a.out.now c.write_pair.new.out c.strays.ensures c.in_ok-strays.was c.write_pair.ensures
