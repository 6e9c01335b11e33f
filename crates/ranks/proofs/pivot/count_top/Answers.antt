-- `ranks::pivot::count_top` meets its contract.
-- Assumes nothing.
use Rattle.ranks.proofs.Narrowing.{top-fits, top-counted}
use Rattle.ranks.proofs.pivot.count_top.Goals as goal

pub count-requires-clause-value_bound : goal.count-requires-clause-value_bound
count-requires-clause-value_bound c =
    let t = c.top-named in
    let p = c.requires.le_from in
    (top-fits c.args.list.now t.result c.args.from t.ensures c.args.value c.requires.column p.0 p.1 p.2).1

pub returns : goal.returns
returns c =
    let t = c.top-named in
    top-counted c.args.list.now t.result c.args.from t.ensures
    c.args.index.now c.count.result c.args.value
    c.requires.le_from.0 c.requires.le_from.1 c.count.ensures
