-- `words::frame::Frame::mask` meets its contract: a segment before the last has as many rows as the format's width.
-- Assumes nothing.
use Prim.Native.Nat.{◌-◌}
use mathlib.Core.Path.{sym, ap, ◌∙◌}
use native.Mathlib.Omega.{arith}
use Rattle.meaning.specs.Segment.{all_set}
use Rattle.meaning.specs.Format.{width}
use Rattle.laws.proofs.Cut.{rows_inside, rows_end}
use Rattle.laws.proofs.Formats.{width-pos}
use Rattle.words.proofs.Segmented.{some-rows}
use Rattle.words.proofs.frame.Frame.mask.Goals as goal

pub returns-then-end-self : goal.returns-then-end-self
returns-then-end-self c =
    let f = c.args.self in
    λ some within.
    f.full_is ∙ ap all_set (sym (rows_inside (width f.format) (width-pos f.format) f.rows (c.args.end - 1) (omega (arith, f.total, c.if-end-self.true))))

pub returns : goal.returns
returns c =
    let f = c.args.self in
    λ some within.
    f.last_is (some-rows (width f.format) f.rows (width-pos f.format) (omega (arith, f.total)))
    ∙ ap all_set (sym (rows_end (width f.format) (width-pos f.format) f.rows (c.args.end - 1) (omega (arith, f.total, c.if-end-self.false))))
