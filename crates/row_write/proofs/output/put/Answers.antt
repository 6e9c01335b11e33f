-- `row_write::output::put` meets its contract: in each case of the piece that of `put_run` or `put_word` is its own.
-- Assumes nothing.
use Prim.Native.Nat.{◌≤◌}
use mathlib.Core.Path.{sym}
use Rattle.row_write.proofs.Walking.{rows-kept}
use Rattle.row_write.proofs.Packing.{takes_same, put_same}
use Rattle.row_write.proofs.output.put.Goals as goal

pub put_word-requires-clause-takes : goal.put_word-requires-clause-takes
put_word-requires-clause-takes g c =
    let e = c.in-Dirty.is in
    let k = c.args.k in
    let few : k ≤ 32 = rw e at c.requires.have_bound.1 in
    takes_same k (λ j h. sym (rows-kept _ _ k j c.lowest.ensures h)) (rw e at c.requires.takes)

pub returns-in-Dirty-clause-put_on : goal.returns-in-Dirty-clause-put_on
returns-in-Dirty-clause-put_on g c =
    let e = c.in-Dirty.is in
    let a = c.args in
    let low = c.lowest.ensures in
    rw e (put_same a.k (λ j h. rows-kept _ _ a.k j low h) c.put_word.ensures.put_on)
