-- `contents::body` meets its contract: by `body-within` the part lies in the index, and by `body-part` it is the body. Assumes nothing.
use mathlib.Core.Path.{refl}
use Rattle.meaning.specs.Index.{body_at}
use Rattle.contents.proofs.Places.{body-within, body-part}
use native.Mathlib.Omega.{arith}
use Rattle.contents.proofs.body.Goals as goal

pub slice_bounds-result-end : goal.slice_bounds-result-end
slice_bounds-result-end c =
    omega (arith, body-within c.args.index.now c.args.k c.requires.entry_facts c.requires.k_bound, c.start-from.ensures.0, c.words.ensures.0)

pub returns : goal.returns
unfolding body_at
returns c =
    let a = c.args in record {
      result_value = body-part a.index.now a.k _ _ c.start-from.ensures.0 c.words.ensures.0;
      ref_ptr_value = refl;
      ref_ptr_value_2 = omega (arith, c.start-from.ensures.0);
    }
