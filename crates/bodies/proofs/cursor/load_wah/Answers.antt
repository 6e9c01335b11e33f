-- `bodies::cursor::load_wah` meets its contract: `wah-next`, or `at-end`.
-- Assumes nothing.
use Rattle.meaning.specs.declared.Format.TheVariants.{Wah}
use Rattle.ewah.proofs.Pieces.{at-end}
use Rattle.bodies.proofs.Loading.{wah-next}
use Rattle.bodies.proofs.cursor.load_wah.Goals as goal

pub returns-then-next-body : goal.returns-then-next-body
returns-then-next-body c =
    let p = c.wah_piece in
    wah-next c.args.body.now c.args.next p.result c.if-next-body.true c.requires.1 p.ensures

pub returns : goal.returns
returns c =
    at-end Wah c.args.body.now c.args.next 0 c.if-next-body.false c.requires.0
