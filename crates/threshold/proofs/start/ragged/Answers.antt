-- `threshold::start::ragged` meets its contract: its first test decides the first test of `ragged`, and what is left is the second. Assumes nothing.
use mathlib.Core.Path.{refl}
use borrow.Author.Tests.{lt-ltb, le-ltb}
use Rattle.threshold.specs.Output.{ragged}
use Rattle.threshold.proofs.start.ragged.Goals as goal

pub returns-then-n-lt-WORD_BYTES : goal.returns-then-n-lt-WORD_BYTES
unfolding ragged
returns-then-n-lt-WORD_BYTES c = rw (lt-ltb c.args.n 4 c.if-n-lt-WORD_BYTES.true) refl

pub returns-else-n-lt-WORD_BYTES : goal.returns-else-n-lt-WORD_BYTES
unfolding ragged
returns-else-n-lt-WORD_BYTES c = rw (le-ltb c.args.n 4 c.if-n-lt-WORD_BYTES.false) refl
