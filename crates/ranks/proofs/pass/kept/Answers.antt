-- `ranks::pass::kept` meets its contract.
-- Assumes nothing.
use Prim.Native.Nat.{ℕ}
use mathlib.Core.Path.{ap, ◌∙◌}
use native.Mathlib.Omega.{arith}
use Rattle.meaning.specs.Segment.{is_set}
use Rattle.laws.proofs.Counting.{zero_clear, full-set}
use Rattle.laws.proofs.Evaluated.{ones_bit}
use Rattle.ranks.proofs.pass.kept.Goals as goal

pub returns-then-o-at : goal.returns-then-o-at
returns-then-o-at c =
    record {
      before = λ h j l. full-set 32 j l;
      here = λ h j l. absurd (omega (arith, c.if-o-at.true));
      behind = λ h j l. absurd (omega (arith, c.if-o-at.true));
    }

pub returns-then-o-at-2 : goal.returns-then-o-at-2
returns-then-o-at-2 c =
    record {
      before = λ h j l. absurd (omega (arith, c.if-o-at-2.true));
      here = λ h j l. ap (λ (v : ℕ). is_set v j) c.low_ones.ensures ∙ ones_bit _ j;
      behind = λ h j l. absurd (omega (arith, c.if-o-at-2.true));
    }

pub returns : goal.returns
returns c =
    record {
      before = λ h j l. absurd (omega (arith, c.if-o-at.false));
      here = λ h j l. absurd (c.if-o-at-2.false h);
      behind = λ h j l. zero_clear j;
    }
