-- `bodies::cursor::wah_piece` meets its contract: `fill_is` of a fill, `literal-is` of a literal.
-- Assumes nothing.
use Rattle.bodies.proofs.Loading.{literal-is, fill_is}
use Rattle.bodies.proofs.cursor.wah_piece.Goals as goal

pub returns-then-is_fill : goal.returns-then-is_fill
returns-then-is_fill c =
    fill_is c.args.x c.read-fill.result c.is_fill.ensures c.if-is_fill.true c.read-fill.ensures

pub returns : goal.returns
returns c = literal-is c.args.x c.is_fill.ensures c.if-is_fill.false
