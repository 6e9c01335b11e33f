-- `starred::ninety_six_rows` meets its contract: what each of its three cases requires holds by computing the definitions. Assumes nothing.
use Rattle.meaning.specs.Ewah.{ewah_fault}
use Rattle.meaning.specs.Answer.{buffer_after, words_reported, compress, expand}
use mathlib.Core.Path.{refl}
use Rattle.starred.proofs.ninety_six_rows.Goals as goal

pub compresses-requires : goal.compresses-requires
unfolding buffer_after words_reported compress expand ewah_fault
compresses-requires c = record { body = _; is-answer = refl; words_are = refl; after_is = refl }

pub expands-requires : goal.expands-requires
unfolding buffer_after words_reported compress expand ewah_fault
expands-requires c = record { body = _; is-answer = refl; words_are = refl; after_is = refl }

pub expands-requires-2 : goal.expands-requires-2
unfolding buffer_after words_reported compress expand ewah_fault
expands-requires-2 c = record { body = _; is-answer = refl; words_are = refl; after_is = refl }
