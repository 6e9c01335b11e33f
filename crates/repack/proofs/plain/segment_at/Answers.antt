-- `repack::plain::segment_at` meets its contract: the rows of segment i begin at row i * w. Assumes nothing.
use Prim.Native.Nat.{ℕ, ◌+◌, ◌*◌}
use mathlib.Core.Path.{ap, ◌∙◌}
use native.Mathlib.Omega.{arith}
use Rattle.meaning.specs.Segment.{word_of, has_row}
use Rattle.laws.proofs.Formats.{width-le}
use Rattle.repack.proofs.plain.segment_at.Goals as goal

pub overflow_mul-i : goal.overflow_mul-i
overflow_mul-i c = omega (arith, ap (λ (w : ℕ). c.args.i * w) c.width-w.ensures)

pub rows_from-requires : goal.rows_from-requires
rows_from-requires c =
    let a = c.args in
    omega (arith, ap (λ (w : ℕ). a.i * w) c.width-w.ensures, c.width-w.ensures, width-le a.format)

pub returns : goal.returns
returns c =
    let a = c.args in
    c.rows_from.ensures
    ∙ ap (λ (w : ℕ). word_of w (λ j. has_row 32 a.plain.now (a.i * w + j))) c.width-w.ensures
