-- `words::rows::last_rows` meets its contract: it is the definition of `last_rows`. Assumes nothing.
use Prim.Native.Nat.{◌-◌, ◌<◌}
use mathlib.Core.Path.{refl}
use native.Mathlib.Nat.{mod-lt}
use native.Mathlib.Omega.{arith}
use Rattle.meaning.specs.Segment.{last_rows}
use Rattle.words.proofs.rows.last_rows.Goals as goal

pub returns : goal.returns
unfolding last_rows
returns g c = let pos : 0 < g.row.W = omega arith in (refl, omega arith, omega (arith, mod-lt (c.args.rows - 1) pos))
