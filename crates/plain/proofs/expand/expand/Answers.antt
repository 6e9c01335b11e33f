-- `plain::expand::expand` meets its contract: in each format its own expansion. Assumes nothing.
use Rattle.meaning.specs.Ewah.{ewah_rows}
use Rattle.meaning.specs.Format.{rows_of}
use Rattle.plain.proofs.expand.expand.Goals as goal

pub expand-requires : goal.expand-requires
expand-requires c = (c.requires.0, rw c.in-Ewah.is at c.requires.1, c.requires.2)

pub expand-requires-in-Wah : goal.expand-requires-in-Wah
expand-requires-in-Wah c = (c.requires.0, rw c.in-Wah.is at c.requires.1, c.requires.2)

pub returns-in-Ewah : goal.returns-in-Ewah
unfolding rows_of ewah_rows
returns-in-Ewah c = rw c.in-Ewah.is c.expand.ensures

pub returns-in-Wah : goal.returns-in-Wah
returns-in-Wah c = rw c.in-Wah.is c.expand-in-Wah.ensures
