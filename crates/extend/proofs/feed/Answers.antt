-- `extend::feed` meets its contract. The invariant: the first words of the batch were put.
-- Assumes nothing.
use Prim.Native.Nat.{◌+◌}
use mathlib.Core.Path.{◌∙◌}
use Rattle.extend.proofs.Feeding.{fed-takes, fed-next, fed-all}
use Rattle.extend.proofs.feed.Goals as goal

pub put-v-requires-clause-takes : goal.put-v-requires-clause-takes
put-v-requires-clause-takes g c =
    let p = c.requires in
    fed-takes c.loop-x.invariant.1 p.have_bound.1 c.loop-x-test.true c.min-k.result c.min-k.ensures p.by_index.3

pub loop-x-preserved : goal.loop-x-preserved
loop-x-preserved g c =
    let x = c.put-v in (
      x.ensures.same.0 ∙ c.loop-x.invariant.0,
      fed-next c.loop-x.invariant.1 c.requires.have_bound.1 c.loop-x-test.true c.min-k.result c.min-k.ensures
          (g.S.Sink.words x.new.out) x.result x.ensures.same.1 x.ensures.have_bound_2 x.ensures.put_on,
    )

pub finish-requires-clause-by_index : goal.finish-requires-clause-by_index
finish-requires-clause-by_index g c =
    let p = c.requires in
    (p.by_index.0 + c.args.rows, p.by_index.1, p.by_index.2, fed-all c.loop-x.invariant.1 p.have_bound.1 c.loop-x-test.false p.by_index.3)

pub returns-clause-rewritten : goal.returns-clause-rewritten
returns-clause-rewritten g c R q old b =
    c.finish.ensures.rewritten (R + c.args.rows) q old
    (fed-all c.loop-x.invariant.1 c.requires.have_bound.1 c.loop-x-test.false b)

pub returns-clause-same : goal.returns-clause-same
returns-clause-same g c =
    (c.finish.ensures.same.0 ∙ c.loop-x.invariant.0, c.finish.ensures.same.1 ∙ c.loop-x.invariant.1.long)
