-- `body_read::row::row` meets its contract: from where the segment is written, by `extent`.
-- Assumes nothing.
use mathlib.Core.Path.{◌≡◌, ap, ◌∙◌}
use Rattle.meaning.specs.Segment.{is_set}
use Rattle.meaning.specs.Format.{width}
use Rattle.meaning.specs.Extent.{extent_of, answer_with}
use Rattle.laws.proofs.Spans.{span_of}
use Rattle.extent.proofs.Told.{row-asked, row_is}
use Rattle.body_read.proofs.row.row.Goals as goal

pub row-requires : goal.row-requires
row-requires c =
    let a = c.args in
    let p = c.locate-bit in
    rw c.width.ensures (row-asked a.format a.rows a.body.now a.r p.result.0 p.ensures.place c.requires.0 c.requires.1 c.requires.2)

pub returns : goal.returns
returns c =
    let a = c.args in
    let p = c.locate-bit in
    let at = p.result.0 in
    let its : c.row.result ≡ answer_with c.has-set.result (extent_of (width a.format) a.rows (span_of at.from at.size)) =
    rw c.width.ensures at c.row.ensures in
    row_is a.format a.rows a.body.now a.r at p.ensures.place c.has-set.result c.row.result
    (c.has-set.ensures ∙ ap (is_set at.word) p.ensures.bit) its
