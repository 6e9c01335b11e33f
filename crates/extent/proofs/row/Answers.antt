-- `extent::row` meets its contract: no product is more than the rows of all segments. Assumes nothing.
use native.Mathlib.Omega.{arith}
use native.Mathlib.Nat.{add-mul}
use mathlib.Core.Path.{ap}
use Prim.Native.Nat.{ℕ, ◌*◌}
use Rattle.meaning.specs.Extent.{answer_with}
use Rattle.extent.proofs.row.Goals as goal

pub overflow_mul-result : goal.overflow_mul-result
overflow_mul-result c = omega (arith, add-mul c.args.from c.args.size c.args.width)

pub returns : goal.returns
returns c =
    ap (λ (n : ℕ). answer_with c.args.set (record { first = c.args.from * c.args.width; last = n })) c.last_row.ensures
