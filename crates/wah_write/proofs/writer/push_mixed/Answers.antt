-- `wah_write::writer::push_mixed` meets its contract: `literal-fits` has the place of its store, and `literal-pushed`
-- the words. Assumes nothing.
use Prim.Native.Nat.{◌<◌}
use mathlib.Core.List.{[], ◌∷◌}
use native.Mathlib.Omega.{arith}
use lib.ListN.{length}
use Rattle.meaning.specs.Segment.{mixed}
use Rattle.wah_write.proofs.Pushing.{room-now, literal-fits, literal-pushed}
use Rattle.wah_write.proofs.writer.push_mixed.Lts
use Rattle.wah_write.proofs.writer.push_mixed.Reads
use Rattle.wah_write.proofs.writer.push_mixed.Tie
use Rattle.wah_write.proofs.writer.push_mixed.Goals as goal

-- places in the code that lemmas below speak of
abbrev After-grow_mixed-r : Type 0
After-grow_mixed-r = Lts.After-grow_mixed Tie.the-claims Reads.Pre Reads.Post

pub grow_mixed-r-requires : goal.grow_mixed-r-requires
grow_mixed-r-requires c =
    omega (arith, c.well_formed.0, room-now (mixed c.args.x ∷ []) c.requires)

fits : (c : After-grow_mixed-r) → c.args.w.used < length c.args.out.now
fits c =
    let g = c.grow_mixed-r in
    literal-fits c.args.w g.result c.args.x (g.ensures c.args.x) c.args.out.now c.requires

pub offset_bounds-out-end : goal.offset_bounds-out-end
offset_bounds-out-end c = omega (arith, fits c)

pub bounds-out-end : goal.bounds-out-end
bounds-out-end c = fits c

pub returns : goal.returns
returns c =
    let g = c.grow_mixed-r in
    literal-pushed c.args.w g.result c.args.x (g.ensures c.args.x) c.args.out.now c.requires
