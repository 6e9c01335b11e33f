-- `starred::rewriting` meets its contract: what each of its cases requires holds by computing the definitions. Assumes nothing.
use mathlib.Core.Path.{refl}
use Rattle.meaning.specs.Ewah.{ewah_fault}
use Rattle.meaning.specs.Wah.{wah_fault}
use Rattle.meaning.specs.Answer.{buffer_after, words_reported}
use Rattle.meaning.specs.Rewriting.{rewrite}
use Rattle.starred.proofs.rewriting.Goals as goal

pub rewrites-requires : goal.rewrites-requires
unfolding buffer_after words_reported rewrite ewah_fault wah_fault
rewrites-requires c = record { body = _; is-answer = refl; words_are = refl; after_is = refl }

pub rewrites-requires-2 : goal.rewrites-requires-2
unfolding buffer_after words_reported rewrite ewah_fault wah_fault
rewrites-requires-2 c = record { body = _; is-answer = refl; words_are = refl; after_is = refl }

pub rewrites-requires-3 : goal.rewrites-requires-3
unfolding buffer_after words_reported rewrite ewah_fault wah_fault
rewrites-requires-3 c = record { body = _; is-answer = refl; words_are = refl; after_is = refl }
