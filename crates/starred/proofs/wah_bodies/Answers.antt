-- `starred::wah_bodies` meets its contract: what each of its cases requires holds by computing the definitions. Assumes nothing.
use mathlib.Core.Path.{refl}
use Rattle.meaning.specs.Wah.{wah_fault}
use Rattle.meaning.specs.Answer.{buffer_after, words_reported, compress, expand, check_body}
use Rattle.starred.proofs.wah_bodies.Goals as goal

pub compresses-requires : goal.compresses-requires
unfolding buffer_after words_reported compress
compresses-requires c = record { body = _; is-answer = refl; words_are = refl; after_is = refl }

pub compresses-requires-2 : goal.compresses-requires-2
unfolding buffer_after words_reported compress
compresses-requires-2 c = record { body = _; is-answer = refl; words_are = refl; after_is = refl }

pub compresses-requires-3 : goal.compresses-requires-3
unfolding buffer_after words_reported compress
compresses-requires-3 c = record { body = _; is-answer = refl; words_are = refl; after_is = refl }

pub expands-requires : goal.expands-requires
unfolding buffer_after words_reported expand wah_fault
expands-requires c = record { body = _; is-answer = refl; words_are = refl; after_is = refl }

pub faulty-requires : goal.faulty-requires
unfolding check_body wah_fault
faulty-requires c = refl

pub faulty-requires-2 : goal.faulty-requires-2
unfolding check_body wah_fault
faulty-requires-2 c = refl

pub faulty-requires-3 : goal.faulty-requires-3
unfolding check_body wah_fault
faulty-requires-3 c = refl
