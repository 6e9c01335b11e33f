-- `fit::write_fitting` meets its contract: what the engine stored is what is reported. Assumes nothing.
use Rattle.fit.proofs.Listing.{reported-words}
use Rattle.fit.proofs.write_fitting.Goals as goal

pub returns : goal.returns
returns c =
    let a = c.args in
    reported-words a.index.now a.list.now a.out.now a.op a.table.now c.merge.new.out c.merge.result c.requires.table_in_bounds c.merge.ensures
