-- `adder::choose::choice` meets its contract. The invariant: the first w words are chosen.
-- Assumes nothing.
use mathlib.Core.Path.{◌≡◌, ap, ◌∙◌}
use Prim.Native.Nat.{ℕ}
use lib.ListN.{get_or}
use Rattle.meaning.specs.Limits.{block_segments}
use Rattle.meaning.specs.Segment.{is_set}
use Rattle.adder.proofs.Bits.{choice-set}
use native.Mathlib.Omega.{arith}
use Rattle.adder.proofs.choose.choice.Goals as goal

pub returns : goal.returns
returns c =
    let h = c.loop-w in
    let a = c.args in
    let w-is : h.w ≡ block_segments = omega arith in
    let f = rw w-is at h.invariant in
    record {
      bits = λ w j l.
          ap (λ (v : ℕ). is_set v j) (f.done w l)
          ∙ choice-set (get_or a.a w 0) (get_or a.b w 0) (get_or a.m w 0) j;
    }
