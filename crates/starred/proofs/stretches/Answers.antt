-- `starred::stretches` meets its contract: the words and the stretches that its case requires hold by computing the definitions. Assumes nothing.
use Rattle.meaning.specs.Ewah.{pieces, ewah_fault}
use Rattle.meaning.specs.Answer.{buffer_after, words_reported, threshold, stretches_reported}
use mathlib.Core.Path.{refl}
use Rattle.starred.proofs.stretches.Goals as goal

pub threshold-requires : goal.threshold-requires
unfolding buffer_after words_reported threshold stretches_reported ewah_fault pieces
threshold-requires c =
    record {
      writes = record { body = _; is-answer = refl; words_are = refl; after_is = refl };
      t_value = refl;
    }
