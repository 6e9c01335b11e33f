-- `words::rows::is_clean` meets its contract: `kind-none` for no row set, `kind-some` for the rest. Assumes nothing.
use Rattle.words.proofs.Segmented.{kind-none, kind-some}
use Rattle.words.proofs.rows.is_clean.Goals as goal

pub returns-then-x-eq0 : goal.returns-then-x-eq0
returns-then-x-eq0 c w some f = kind-none w c.args.x c.if-x-eq0.true

pub returns : goal.returns
returns c w some f = kind-some w c.args.x c.args.full some f c.if-x-eq0.false
