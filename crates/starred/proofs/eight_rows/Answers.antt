-- `starred::eight_rows` meets its contract: what each of its five cases requires holds by computing the definitions. Assumes nothing.
use Rattle.meaning.specs.Ewah.{ewah_fault}
use Rattle.meaning.specs.Answer.{buffer_after, words_reported, and, or, xor, and_not, not_of}
use mathlib.Core.Path.{refl}
use Rattle.starred.proofs.eight_rows.Goals as goal

pub and-requires : goal.and-requires
unfolding buffer_after words_reported and or xor and_not not_of ewah_fault
and-requires c = record { body = _; is-answer = refl; words_are = refl; after_is = refl }

pub or-requires : goal.or-requires
unfolding buffer_after words_reported and or xor and_not not_of ewah_fault
or-requires c = record { body = _; is-answer = refl; words_are = refl; after_is = refl }

pub xor-requires : goal.xor-requires
unfolding buffer_after words_reported and or xor and_not not_of ewah_fault
xor-requires c = record { body = _; is-answer = refl; words_are = refl; after_is = refl }

pub and_not-requires : goal.and_not-requires
unfolding buffer_after words_reported and or xor and_not not_of ewah_fault
and_not-requires c = record { body = _; is-answer = refl; words_are = refl; after_is = refl }

pub not-requires : goal.not-requires
unfolding buffer_after words_reported and or xor and_not not_of ewah_fault
not-requires c = record { body = _; is-answer = refl; words_are = refl; after_is = refl }
