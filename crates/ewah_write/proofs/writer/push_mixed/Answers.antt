-- `ewah_write::writer::push_mixed` meets its contract: `mixed-fits` has the places of its stores, and `mixed-pushed` the words.
-- Assumes nothing.
use Prim.Native.Nat.{◌+◌, ◌≤◌, ◌<◌}
use mathlib.Core.List.{[], ◌∷◌}
use native.Mathlib.Omega.{arith}
use lib.ListN.{length, length-set}
use Rattle.meaning.specs.Segment.{mixed}
use Rattle.ewah_write.proofs.Pushing.{room-now, mixed-fits, mixed-pushed}
use Rattle.ewah_write.proofs.writer.push_mixed.Lts
use Rattle.ewah_write.proofs.writer.push_mixed.Reads
use Rattle.ewah_write.proofs.writer.push_mixed.Tie
use Rattle.ewah_write.proofs.writer.push_mixed.Goals as goal

-- places in the code that lemmas below speak of
abbrev After-grow_mixed-r : Type 0
After-grow_mixed-r = Lts.After-grow_mixed Tie.the-claims Reads.Pre Reads.Post Tie.handed_clauses

pub grow_mixed-r-requires-clause-used_bound : goal.grow_mixed-r-requires-clause-used_bound
grow_mixed-r-requires-clause-used_bound c =
    let p = c.requires in
    omega (arith, c.well_formed.0, room-now (mixed c.args.x ∷ []) p)

fits : (c : After-grow_mixed-r) → let r = c.grow_mixed-r.result in (r.at + 1 < r.used) × (r.used ≤ length c.args.out.now)
fits c = mixed-fits c.args.w c.grow_mixed-r.result c.args.x (c.grow_mixed-r.ensures c.args.x) c.args.out.now c.requires

pub overflow_sub-end : goal.overflow_sub-end
overflow_sub-end c = omega (arith, fits c.before.before)

pub offset_bounds-out-at : goal.offset_bounds-out-at
offset_bounds-out-at c = omega (arith, fits c.before.before.before)

pub bounds-out-at : goal.bounds-out-at
bounds-out-at c = omega (arith, fits c.before.before.before)

pub offset_bounds-out-end : goal.offset_bounds-out-end
offset_bounds-out-end c = omega (arith, fits c.before.before.before)

pub bounds-out-end : goal.bounds-out-end
bounds-out-end c = simp length-set (omega (arith, fits c.before.before.before))

pub returns : goal.returns
returns c =
    let g = c.grow_mixed-r in
    mixed-pushed c.args.w g.result c.args.x (g.ensures c.args.x) c.args.out.now c.requires c.word.result c.word.ensures
