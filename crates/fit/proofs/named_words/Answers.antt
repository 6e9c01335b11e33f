-- `fit::named_words` meets its contract. The invariant: the total and the words of the bodies that are left are all the words. Assumes nothing.
use native.Mathlib.Omega.{arith}
use Rattle.fit.proofs.Fitting.{words-next, words-end}
use Rattle.fit.proofs.named_words.Goals as goal

pub loop-k-preserved : goal.loop-k-preserved
loop-k-preserved c =
    let l = c.loop-k in
    let r = c.requires in record {
      low = omega (arith, l.invariant.low, c.words-total.ensures.1);
      all = words-next c.args.index.now c.args.list.now l.k-index l.total _ l.invariant.all r.index_facts.entries r.listed c.loop-k-test.true c.words-total.result c.words-total.ensures.0;
    }

pub returns : goal.returns
returns c =
    let l = c.loop-k in
    (words-end c.args.index.now c.args.list.now l.k-index l.total _ l.invariant.all c.loop-k-test.false, omega (arith, l.invariant.low, l.auto.k-index-end, c.requires.listed.most))
