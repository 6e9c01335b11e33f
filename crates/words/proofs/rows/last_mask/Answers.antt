-- `words::rows::last_mask` meets its contract. Assumes nothing.
use Prim.Native.Nat.{ℕ, ◌-◌, ◌^◌}
use mathlib.Core.Path.{ap, ◌∙◌}
use Rattle.meaning.specs.Segment.{all_set}
use Rattle.words.proofs.rows.last_mask.Goals as goal

pub returns : goal.returns
unfolding all_set
returns c = λ h. c.low_ones.ensures ∙ ap (λ (k : ℕ). 2 ^ k - 1) c.last_rows_of.ensures.0
