-- `index::check::is_kind` meets its contract: the first kind, or else the second. Assumes nothing.
use mathlib.Core.Path.{refl}
use borrow.Author.Tests.{eq-eqb, ne_eqb}
use Rattle.meaning.specs.Index.{is_kind}
use Rattle.index.proofs.check.is_kind.Goals as goal

pub returns-then-x-eq-EWAH_KIND : goal.returns-then-x-eq-EWAH_KIND
unfolding is_kind
returns-then-x-eq-EWAH_KIND c = rw (eq-eqb c.args.x 1 c.if-x-eq-EWAH_KIND.true) refl

pub returns-else-x-eq-EWAH_KIND : goal.returns-else-x-eq-EWAH_KIND
unfolding is_kind
returns-else-x-eq-EWAH_KIND c = rw (ne_eqb c.args.x 1 c.if-x-eq-EWAH_KIND.false) refl
