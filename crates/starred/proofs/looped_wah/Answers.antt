-- `starred::looped_wah` meets its contract: what each of its cases requires holds by computing the definitions. Assumes nothing.
use mathlib.Core.Path.{refl}
use Rattle.meaning.specs.Wah.{wah_pieces, wah_fault}
use Rattle.meaning.specs.Answer.{buffer_after, words_reported, check, threshold, stretches_reported}
use Rattle.starred.proofs.looped_wah.Goals as goal

pub sound-requires : goal.sound-requires
unfolding check wah_fault
sound-requires c = refl

pub threshold-requires : goal.threshold-requires
unfolding buffer_after words_reported threshold stretches_reported wah_fault wah_pieces
threshold-requires c =
    record {
      writes = record { body = _; is-answer = refl; words_are = refl; after_is = refl };
      t_value = refl;
    }
