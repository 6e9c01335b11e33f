-- `wah_write::writer::push_run` meets its contract: by `known`, what holds before the store, `run-some` has its place
-- and `run_pushed` the words. Assumes nothing.
use native.Mathlib.Omega.{arith}
use lib.ListN.{replicate}
use Rattle.meaning.specs.Segment.{clean}
use Rattle.wah_write.proofs.Pushing.{Running, room-now, run-some, run_pushed}
use Rattle.wah_write.proofs.writer.push_run.Lts
use Rattle.wah_write.proofs.writer.push_run.Reads
use Rattle.wah_write.proofs.writer.push_run.Tie
use Rattle.wah_write.proofs.writer.push_run.Goals as goal

-- places in the code that lemmas below speak of
abbrev After-grow_run-r : Type 0
After-grow_run-r = Lts.After-grow_run Tie.the-claims Reads.Pre Reads.Post Tie.handed_clauses

pub grow_run-r-requires : goal.grow_run-r-requires
grow_run-r-requires c =
    let p = c.requires in
    let u = room-now (replicate c.args.n (clean c.args.value)) p.room_for in
    (omega (arith, c.well_formed.0), p.value_bound.0, p.value_bound.1, p.value_bound.2)

known : (c : After-grow_run-r)
    → let s = c.args in
    Running s.out.now s.w c.grow_run-r.result s.value s.n
known c =
    let p = c.requires in
    record { grown = c.grow_run-r.ensures; roomy = p.room_for; some = p.value_bound.1; fits = p.value_bound.2 }

pub overflow_sub-end : goal.overflow_sub-end
overflow_sub-end c = omega (arith, run-some (known c.before.before.before))

pub run_word-requires : goal.run_word-requires
run_word-requires c =
    let q = run-some (known c.before.before.before) in
    (c.requires.value_bound.0, q.0, q.1)

pub offset_bounds-out-end : goal.offset_bounds-out-end
offset_bounds-out-end c = omega (arith, run-some (known c.before.before.before))

pub bounds-out-end : goal.bounds-out-end
bounds-out-end c = omega (arith, run-some (known c.before.before.before))

pub returns : goal.returns
returns c =
    λ real e.
    run_pushed (known c.before.before.before) real c.run_word.result (c.run_word.ensures real e)
