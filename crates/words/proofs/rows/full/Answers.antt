-- `words::rows::full` meets its contract: by the format's case, the definition of `all_set`. Assumes nothing.
use mathlib.Core.Path.{sym, ap}
use Rattle.meaning.specs.Segment.{all_set}
use Rattle.meaning.specs.Format.{width}
use Rattle.meaning.specs.declared.Format.{Format}
use Rattle.words.proofs.rows.full.Goals as goal

pub returns-in-Ewah : goal.returns-in-Ewah
unfolding all_set
returns-in-Ewah c = sym (ap (λ (f : Format). all_set (width f)) c.in-Ewah.is)

pub returns-in-Wah : goal.returns-in-Wah
unfolding all_set
returns-in-Wah c = sym (ap (λ (f : Format). all_set (width f)) c.in-Wah.is)
