-- `repack::fill::put_word` meets its contract: by `put_full`, where the word begun is full, and else by `put-begun`.
-- Assumes nothing.
use Prim.Native.Nat.{ℕ, ◌-◌, ◌*◌, ◌≤◌}
use mathlib.Core.Path.{refl, sym, ap, ◌∙◌}
use native.Mathlib.Omega.{arith}
use borrow.Author.Tests.{leb-true, leb-false}
use Rattle.repack.proofs.RowsPut.{put-begun, put_full}
use Rattle.repack.proofs.fill.put_word.Lts
use Rattle.repack.proofs.fill.put_word.Reads
use Rattle.repack.proofs.fill.put_word.Tie
use Rattle.repack.proofs.fill.put_word.Goals as goal

-- places in the code that lemmas below speak of
abbrev Then-full : Type 0
Then-full = Lts.Then1 Tie.the-claims Reads.Pre Reads.Post

is-full : (c : Then-full) → 32 ≤ c.add-more.result.have
is-full c = leb-true 32 c.add-more.result.have (sym c.full.ensures ∙ c.if-full.true)

pub take-cut-requires : goal.take-cut-requires
take-cut-requires c = (omega arith, is-full c.before, c.add-more.ensures.low)

pub bounds-out-done : goal.bounds-out-done
bounds-out-done c = omega (arith, is-full c.before.before, c.add-more.ensures.have)

pub returns-then-full : goal.returns-then-full
returns-then-full c =
    let a = c.args in
    let added = c.add-more.ensures in
    let cut = c.take-cut.ensures in
    let full = is-full c.before.before in
    put_full a.s a.x a.k a.out.now c.requires.2 _ _
    (omega (arith, added.have, full))
    (omega (arith, added.have, full))
    c.requires.1
    c.requires.0.few
    refl
    (cut.have ∙ ap (λ (n : ℕ). n - 32) added.have)
    cut.low
    (λ q h e. cut.holds q (a.s.done * 32) (added.holds q (a.s.done * 32) h e))

pub returns : goal.returns
returns c =
    let a = c.args in
    let add = c.add-more in
    let begun = leb-false 32 add.result.have (sym c.full.ensures ∙ c.if-full.false) in
    put-begun a.s a.x a.k a.out.now c.requires.2 _ add.ensures refl begun
