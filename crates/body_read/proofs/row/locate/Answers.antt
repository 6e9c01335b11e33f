-- `body_read::row::locate` meets its contract: quotient and remainder by the segment's width, as in `has_row`, and the format's own walk.
-- Assumes nothing.
use Rattle.meaning.specs.declared.Format.TheVariants.{Ewah, Wah}
use Rattle.laws.proofs.Spans.{segment-within}
use Rattle.body_read.proofs.Either.{facts-as}
use Rattle.body_read.proofs.row.locate.Goals as goal

pub locate-requires : goal.locate-requires
locate-requires c =
    let a = c.args in
    let f = facts-as a.format c.requires.0 a.body.now Ewah c.in-Ewah.is c.requires.1 in
    (f.ended, segment-within Ewah c.requires.0 a.body.now f a.r c.requires.2)

pub locate-requires-in-Wah : goal.locate-requires-in-Wah
locate-requires-in-Wah c =
    let a = c.args in
    let f = facts-as a.format c.requires.0 a.body.now Wah c.in-Wah.is c.requires.1 in
    segment-within Wah c.requires.0 a.body.now f a.r c.requires.2
