-- `ewah_write::writer::push_run` meets its contract: by `known`, what holds before the stores, each way is a law of `Pushing`.
-- Assumes nothing.
use native.Mathlib.Omega.{arith}
use lib.ListN.{replicate, length-set}
use Rattle.meaning.specs.Segment.{clean}
use Rattle.ewah_write.proofs.Pushing.{Running, room-now, last_fits, last-pushed, new-fits, new-pushed, both-pushed}
use Rattle.ewah_write.proofs.writer.push_run.Lts
use Rattle.ewah_write.proofs.writer.push_run.Reads
use Rattle.ewah_write.proofs.writer.push_run.Tie
use Rattle.ewah_write.proofs.writer.push_run.Goals as goal

-- places in the code that lemmas below speak of
abbrev After-word-m : Type 0
After-word-m = Lts.After-word Tie.the-claims Reads.Pre Reads.Post Tie.handed_clauses

pub grow_run-r-requires-clause-used_bound : goal.grow_run-r-requires-clause-used_bound
grow_run-r-requires-clause-used_bound c =
    let p = c.requires in
    let u = room-now (replicate c.args.n (clean c.args.value)) p.room_for in
    (omega (arith, c.well_formed.0), p.value_bound.0, p.value_bound.1)

known : (c : After-word-m)
    → let s = c.args in
    Running s.out.now s.w c.grow_run-r.result s.value s.n c.free-room.result c.word-m.result
known c =
    let p = c.requires in
    record { free = c.free-room.ensures; grown = c.grow_run-r.ensures; roomy = p.room_for; named = c.word-m.ensures; few = p.value_bound.1 }

pub offset_bounds-out-at : goal.offset_bounds-out-at
offset_bounds-out-at c = omega (arith, last_fits (known c.before.before) (omega arith))

pub bounds-out-at : goal.bounds-out-at
bounds-out-at c = last_fits (known c.before.before) (omega arith)

pub returns-then-n-room : goal.returns-then-n-room
returns-then-n-room c = last-pushed (known c.before.before) c.if-n-room.true c.if-n-eq0.false

pub offset_bounds-out-used : goal.offset_bounds-out-used
offset_bounds-out-used c = omega (arith, new-fits (known c.before.before.before) c.if-n-room.false)

pub bounds-out-used : goal.bounds-out-used
bounds-out-used c = new-fits (known c.before.before.before) c.if-n-room.false

pub returns-then-room-eq0 : goal.returns-then-room-eq0
returns-then-room-eq0 c = new-pushed (known c.before.before.before) c.if-n-room.false c.if-room-eq0.true

pub offset_bounds-out-at-2 : goal.offset_bounds-out-at-2
offset_bounds-out-at-2 c = omega (arith, last_fits (known c.before.before.before.before) (omega arith))

pub bounds-out-at-2 : goal.bounds-out-at-2
bounds-out-at-2 c = last_fits (known c.before.before.before.before) (omega arith)

pub offset_bounds-out-used-2 : goal.offset_bounds-out-used-2
offset_bounds-out-used-2 c = omega (arith, new-fits (known c.before.before.before.before) c.if-n-room.false)

pub bounds-out-used-2 : goal.bounds-out-used-2
bounds-out-used-2 c = simp length-set (new-fits (known c.before.before.before.before) c.if-n-room.false)

pub returns : goal.returns
returns c =
    both-pushed (known c.before.before.before.before) c.if-n-room.false c.if-room-eq0.false c.word.result c.word.ensures
