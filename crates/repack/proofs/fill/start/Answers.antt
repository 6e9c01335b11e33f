-- `repack::fill::start` meets its contract: of no rows there is no word. Assumes nothing.
use mathlib.Core.Path.{refl}
use native.Mathlib.Omega.{arith}
use Rattle.meaning.specs.Segment.{word_of}
use Rattle.repack.proofs.fill.start.Goals as goal

pub returns : goal.returns
unfolding word_of
returns c =
    record {
      result_value = (refl, record { few = omega arith; low = omega arith });
      by_index = λ q was. record {
        few = omega arith;
        long = refl;
        whole = λ i h. absurd (omega arith);
        behind = λ i h. refl;
        begun = refl;
      };
    }
