-- `columns::pair::write_pair` meets its contract.
-- Assumes nothing.
use mathlib.Core.Path.{ap}
use Rattle.meaning.specs.NewIndex.{index_room}
use Rattle.pairs.specs.Passes.{Columns}
use Rattle.columns.proofs.Asking.{good-column, two-columns, wrote-no-room, wrote-pair}
use native.Mathlib.Omega.{arith}
use Rattle.columns.proofs.pair.write_pair.Lts
use Rattle.columns.proofs.pair.write_pair.Reads
use Rattle.columns.proofs.pair.write_pair.Tie
use Rattle.columns.proofs.pair.write_pair.Goals as goal

-- places in the code that lemmas below speak of
abbrev After-slices-n : Type 0
After-slices-n = Lts.After-slices Tie.the-claims Reads.Pre Reads.Post Tie.handed_clauses

-- where the slices are counted
columns : (w : After-slices-n)
    → let a = w.args in
    Columns a.index.now a.first.now a.second.now w.slices-n.result
columns w =
    two-columns w.args.op _ _ _ w.requires.index_facts w.requires.first_value w.requires.second_value _ w.slices-n.ensures

pub slices-n-requires : goal.slices-n-requires
slices-n-requires c =
    let f = good-column _ _ _ c.requires.first_value in
    let g = good-column _ _ _ c.requires.second_value in record {
      in_bounds = (omega (arith, f.0), omega (arith, g.0));
      first_len_bound = (f.1, g.1);
    }

pub write-need-requires : goal.write-need-requires
write-need-requires c = columns c.before.before

pub returns-then-room-need : goal.returns-then-room-need
returns-then-room-need c =
    let a = c.args in
    wrote-no-room a.op a.index.now a.first.now a.second.now a.out.now _ _ c.write-need.result c.slices-n.ensures c.write-need.ensures
    (omega (arith, c.if-room-need.true, c.room.ensures, ap index_room c.write-need.auto.out)) c.no_room.result c.no_room.ensures

pub returns : goal.returns
returns c =
    let a = c.args in
    wrote-pair a.op a.index.now a.first.now a.second.now a.out.now _ _ c.write-need.result c.slices-n.ensures c.write-need.ensures
    (omega (arith, c.if-room-need.false, c.room.ensures, ap index_room c.write-need.auto.out))
