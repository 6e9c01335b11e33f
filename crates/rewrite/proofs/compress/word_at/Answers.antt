-- `rewrite::compress::word_at` meets its contract: the mask keeps the word of a segment's rows. Assumes nothing.
use mathlib.Core.Path.{ap, ◌∙◌}
use native.Mathlib.Nat.{mod-eq_of_lt}
use native.Mathlib.Omega.{arith}
use Prim.Native.Nat.{ℕ, ◌%◌, ◌^◌, ◌<◌}
use Rattle.meaning.specs.Segment.{kind, rows_in, has_row, segment_count}
use Rattle.meaning.specs.Format.{width}
use Rattle.laws.proofs.Formats.{width-pos}
use Rattle.laws.proofs.Cut.{rows-some, rows-le}
use Rattle.repack.proofs.PlainSegments.{segment-inside, segment-is}
use Rattle.row_write.proofs.Sending.{word-short}
use Rattle.rewrite.proofs.compress.word_at.Goals as goal

pub segment_at-requires : goal.segment_at-requires
segment_at-requires c =
    let F = c.args.frame.format in
    segment-inside (width F) c.requires.plain_rows c.args.i (omega (arith, c.requires.inside, c.args.frame.total)) (width-pos F)

pub returns : goal.returns
returns c =
    let F = c.args.frame.format in
    let R = c.args.frame.rows in
    let i = c.args.i in
    let w = width F in
    let pos = width-pos F in
    let real = rows_in w R i in
    let h : i < segment_count w R = omega (arith, c.requires.inside, c.args.frame.total) in
    let is = c.segment_at.ensures ∙ segment-is w c.requires.plain_rows i h in
    let low = word-short F R (has_row 32 c.args.plain.now) i h in
    (c.spelled.ensures w real (rows-some w pos R i h) (rows-le w pos R i) c.args.frame.full_is c.requires.rows_of_mask).0
    ∙ ap (λ (x : ℕ). kind real (x % 2 ^ real)) is
    ∙ ap (kind real) (mod-eq_of_lt low)
