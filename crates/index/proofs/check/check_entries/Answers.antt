-- `index::check::check_entries` meets its contract. The loop's invariant: the first fault of the entries from k on, with the next body due at `end`, is that of all entries. Assumes nothing.
use Rattle.index.proofs.EntrySteps.{passed-of, faulty-of, entries_next, entries-fault, entries-left, entries-end}
use Rattle.answers.specs.Told.{outcome_of}
use Rattle.std.proofs.lemmas.Result.{err_from_is_err_and}
use Rattle.index.proofs.check.check_entries.Goals as goal

pub returns-in_err-end : goal.returns-in_err-end
unfolding outcome_of
returns-in_err-end c =
    let l = c.loop-k in
    let p = err_from_is_err_and c.from_residual.result c.from_residual.ensures.1 in
    let f = faulty-of _ _ _ _ c.entry_step.ensures _ c.in_err-end.was in
    rw (p.1, p.2) (entries-fault c.args.index.now _ l.k l.end _ l.invariant.1 c.loop-k-test.true _ f)

pub loop-k-preserved : goal.loop-k-preserved
loop-k-preserved c =
    let l = c.loop-k in
    let p = passed-of _ _ _ _ c.entry_step.ensures _ c.in_ok-end.was in
    (p.inside, entries_next c.args.index.now _ l.k l.end _ l.invariant.1 c.loop-k-test.true _ p)

pub returns-then-end-index : goal.returns-then-end-index
unfolding outcome_of
returns-then-end-index c =
    let l = c.loop-k in
    rw c.refusal.ensures (entries-left c.args.index.now _ l.k l.end _ l.invariant.1 c.loop-k-test.false c.if-end-index.true)

pub returns : goal.returns
unfolding outcome_of
returns c =
    let l = c.loop-k in
    entries-end c.args.index.now _ l.k l.end _ l.invariant.1 c.loop-k-test.false c.if-end-index.false
