-- `words::copies::copy` meets its contract. The invariant: the first i words are copied, and the others are as they were.
-- Assumes nothing.
use native.Mathlib.Omega.{arith}
use Prim.Native.Nat.{ℕ, suc, ◌+◌, ◌<◌}
use mathlib.Core.Path.{◌≡◌, ap, ◌∙◌}
use mathlib.Core.List.{List, ◌++◌}
use lib.ListN.{length, get_or, set, take, drop, length-set}
use lib.Seq.{paste-suc}
use native.Mathlib.Numerals.{add-one}
use Rattle.words.proofs.copies.copy.Goals as goal

-- one word more
copy_more : (n : ℕ) (s d : List ℕ) → n < length s → n < length d → set (take n s ++ drop n d) n (get_or s n 0) ≡ take (n + 1) s ++ drop (n + 1) d
copy_more n s d hs hd =
    let z : 0 + n ≡ n = omega arith in
    let y : 0 + suc n ≡ suc n = omega arith in
    let l : 0 + n < length d = omega arith in
    rw add-one (rw (z, y) at (paste-suc d 0 s n 0 l hs))

pub loop-i-preserved : goal.loop-i-preserved
loop-i-preserved c =
    let h = c.loop-i in
    let from = c.args.from.now in
    let out = c.args.out.now in (
      simp length-set (omega arith),
      ap (λ (l : List ℕ). set l h.i (get_or from h.i 0)) h.invariant.1 ∙ copy_more h.i from out (omega arith) (omega arith),
    )
