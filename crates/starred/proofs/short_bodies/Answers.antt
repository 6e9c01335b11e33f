-- `starred::short_bodies` meets its contract: what each of its three cases requires holds by computing the definitions. Assumes nothing.
use Rattle.meaning.specs.Ewah.{ewah_fault}
use Rattle.meaning.specs.Answer.{buffer_after, words_reported, compress}
use mathlib.Core.Path.{refl}
use Rattle.starred.proofs.short_bodies.Goals as goal

pub compresses-requires : goal.compresses-requires
unfolding buffer_after words_reported compress ewah_fault
compresses-requires c = record { body = _; is-answer = refl; words_are = refl; after_is = refl }

pub compresses-requires-2 : goal.compresses-requires-2
unfolding buffer_after words_reported compress ewah_fault
compresses-requires-2 c = record { body = _; is-answer = refl; words_are = refl; after_is = refl }

pub compresses-requires-3 : goal.compresses-requires-3
unfolding buffer_after words_reported compress ewah_fault
compresses-requires-3 c = record { body = _; is-answer = refl; words_are = refl; after_is = refl }
