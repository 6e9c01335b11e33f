-- `popcount::count_each` meets its contract, by `each_next`. Assumes nothing.
use mathlib.Core.Path.{◌≡◌, sym, ap, ◌∙◌}
use Prim.Native.Nat.{ℕ, ◌+◌}
use lib.ListN.{length}
use Rattle.popcount.specs.Counts.{set_in}
use Rattle.popcount.proofs.Counted.{set-all, set-none, each_next, fits_word}
use native.Mathlib.Omega.{arith}
use Rattle.popcount.proofs.count_each.Lts
use Rattle.popcount.proofs.count_each.Reads
use Rattle.popcount.proofs.count_each.Tie
use Rattle.popcount.proofs.count_each.Goals as goal

-- places in the code that lemmas below speak of
abbrev After-count-n : Type 0
After-count-n = Lts.After-count Tie.the-claims Reads.Pre Reads.Post goal.the-invariant-loop-x goal.the-decreases-loop-x

-- with the word at the index
counted : (c : After-count-n)
    → let h = c.loop-x in
    h.n + c.count-n.result ≡ set_in c.args.ws.now 0 (h.x-index + 1)
counted c =
    let h = c.loop-x in
    ap (λ (m : ℕ). h.n + m) c.count-n.ensures ∙ each_next c.args.ws.now h.x-index h.n h.invariant

pub loop-x-init : goal.loop-x-init
loop-x-init c = sym (set-none c.args.ws.now 0)

pub overflow_add-n : goal.overflow_add-n
overflow_add-n c =
    let h = c.loop-x in
    omega (arith, fits_word c.args.ws.now (h.x-index + 1) (h.n + c.count-n.result) (counted c.before) (omega arith))

pub loop-x-preserved : goal.loop-x-preserved
loop-x-preserved c = counted c.before

pub returns : goal.returns
returns c =
    let h = c.loop-x in
    let i-is : h.x-index ≡ length c.args.ws.now = omega arith in
    rw i-is at h.invariant ∙ sym (set-all c.args.ws.now)
