-- `fit::write_answer` meets its contract: it surely fits, or what was measured says whether it does. Assumes nothing.
use Rattle.fit.proofs.Listing.{measured-none}
use Rattle.fit.proofs.write_answer.Goals as goal

pub returns-then-out-need : goal.returns-then-out-need
returns-then-out-need c =
    let a = c.args in
    let m = c.merge-need in
    measured-none a.index.now a.list.now a.out.now a.op a.table.now m.new.out m.result m.ensures c.if-out-need.true c.no_room.result c.no_room.ensures
