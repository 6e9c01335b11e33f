-- `starred::looped` meets its contract: what each of its five cases requires holds by computing the definitions. Assumes nothing.
use Rattle.meaning.specs.Ewah.{pieces, ewah_fault}
use Rattle.meaning.specs.Answer.{buffer_after, words_reported, check, threshold, stretches_reported, histogram}
use mathlib.Core.Path.{refl}
use Rattle.starred.proofs.looped.Goals as goal

pub sound-requires : goal.sound-requires
unfolding buffer_after words_reported check threshold stretches_reported histogram ewah_fault pieces
sound-requires c = refl

pub threshold-requires : goal.threshold-requires
unfolding buffer_after words_reported check threshold stretches_reported histogram ewah_fault pieces
threshold-requires c =
    record {
      writes = record { body = _; is-answer = refl; words_are = refl; after_is = refl };
      t_value = refl;
    }

pub histogram-requires : goal.histogram-requires
unfolding buffer_after words_reported check threshold stretches_reported histogram ewah_fault pieces
histogram-requires c = refl

pub refuses-requires : goal.refuses-requires
unfolding buffer_after words_reported check threshold stretches_reported histogram ewah_fault pieces
refuses-requires c =
    record {
      out_value = refl;
      out_value_2 = refl;
    }

pub refuses-requires-2 : goal.refuses-requires-2
unfolding buffer_after words_reported check threshold stretches_reported histogram ewah_fault pieces
refuses-requires-2 c =
    record {
      out_value = refl;
      out_value_2 = refl;
    }
