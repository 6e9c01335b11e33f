-- `columns::rank::write_ranked` meets its contract.
-- Assumes nothing.
use Rattle.columns.proofs.Asking.{ranked-column, so-many, rank-no-room, rank-words}
use native.Mathlib.Omega.{arith}
use Rattle.columns.proofs.rank.write_ranked.Goals as goal

pub write-need-requires : goal.write-need-requires
write-need-requires c =
    record {
      column = ranked-column _ _ _ c.requires.index_facts c.requires.k_value;
      k_bound = so-many _ _ _ c.requires.index_facts c.requires.k_value;
    }

pub returns-then-out-need : goal.returns-then-out-need
returns-then-out-need c =
    let a = c.args in
    rank-no-room a.index.now a.list.now a.k a.op a.out.now _ c.write-need.result c.write-need.ensures
    (omega (arith, c.if-out-need.true, c.write-need.auto.out)) c.no_room.result c.no_room.ensures

pub returns : goal.returns
returns c =
    let a = c.args in
    rank-words a.index.now a.list.now a.k a.op a.out.now _ c.write-need.result c.write-need.ensures
    (omega (arith, c.if-out-need.false, c.write-need.auto.out))
