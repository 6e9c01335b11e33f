-- `ewah::cursor::load_dirty` meets its contract: `on-dirty`, or `at-end`.
-- Assumes nothing.
use Rattle.meaning.specs.declared.Format.TheVariants.{Ewah}
use Rattle.ewah.proofs.Pieces.{at-end, on-dirty}
use Rattle.ewah.proofs.cursor.load_dirty.Goals as goal

pub returns-then-next-body : goal.returns-then-next-body
returns-then-next-body c = on-dirty c.args.body.now c.args.next c.if-next-body.true c.args.dirty c.requires.1 c.requires.2

pub returns : goal.returns
returns c = at-end Ewah c.args.body.now c.args.next c.args.dirty c.if-next-body.false c.requires.0
