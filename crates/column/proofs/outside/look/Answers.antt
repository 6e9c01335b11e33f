-- `column::outside::look` meets its contract: `seen-zeros` and `seen-ones` where a run says that nothing strays,
-- `seen-words` where both are on dirty words, and else `seen_first` and `seen_none` by the words of the first segment.
-- Assumes nothing.
use Prim.Native.Nat.{ℕ, ◌-◌, ◌^◌, ◌≤◌, ◌<◌}
use mathlib.Core.Path.{sym, ◌∙◌, subst₂}
use native.Mathlib.Omega.{arith}
use borrow.Author.Rules.{rules}
use mir.Syntax.{w32}
use mir.Val.{Fits}
use Rattle.std.specs.Prelude.{Some, None}
use Rattle.meaning.specs.Limits.{word_bits}
use Rattle.laws.proofs.Formats.{width-le}
use Rattle.bodies.specs.Walks.{word_of}
use Rattle.column.specs.Outside.{OverBits}
use Rattle.column.proofs.Lowering.{has-bit}
use Rattle.column.proofs.Looking.{facing, words-within, part-length, spells-parts, found_as}
use Rattle.column.proofs.Looking.{seen-zeros, seen-ones, seen-words, seen_first, seen_none}
use Rattle.column.proofs.outside.look.Goals as goal

pub returns-then-is_run : goal.returns-then-is_run
returns-then-is_run c =
    let a = c.args in
    let q = c.requires.le_n in
    let r = c.is_run.ensures c.if-is_run.true in
    λ o l k. (
      q.0,
      omega arith,
      seen-zeros (facing a.format a.slice.now a.exists.now a.n a.c a.e o (λ i. (c.type_inv.slice i).fits) q.0 q.2 q.3 l k) r.0 r.1,
    )

pub returns-then-is_run-2 : goal.returns-then-is_run-2
returns-then-is_run-2 c =
    let a = c.args in
    let q = c.requires.le_n in
    let r = c.is_run-2.ensures c.if-is_run-2.true in
    λ o l k. (
      q.0,
      omega arith,
      seen-ones (facing a.format a.slice.now a.exists.now a.n a.c a.e o (λ i. (c.type_inv.slice i).fits) q.0 q.2 q.3 l k) r.0 r.1,
    )

pub overflow_sub-at : goal.overflow_sub-at
overflow_sub-at c =
    let a = c.args in
    let q = c.requires.le_n in
    (words-within a.format a.slice.now a.n a.c c.requires.in_order _ c.in-Dirty-Dirty.is-0 q.0 q.4).0

pub overflow_sub-from : goal.overflow_sub-from
overflow_sub-from c =
    let a = c.args in
    let q = c.requires.le_n in
    (words-within a.format a.exists.now a.n a.e c.requires.in_order_2 _ c.in-Dirty-Dirty.is-1 q.0 q.5).0

pub find-requires : goal.find-requires
find-requires c =
    let a = c.args in
    let q = c.requires.le_n in
    let w = words-within a.format a.slice.now a.n a.c c.requires.in_order _ c.in-Dirty-Dirty.is-0 q.0 q.4 in
    let w' = words-within a.format a.exists.now a.n a.e c.requires.in_order_2 _ c.in-Dirty-Dirty.is-1 q.0 q.5 in
    let m = part-length a.slice.now (a.c.next - 1) a.n w.1 in
    let m' = part-length a.exists.now (a.e.next - 1) a.n w'.1 in
    (omega (arith, c.width-width.ensures, width-le a.format), omega (arith, m, q.1), m ∙ sym m')

pub returns-in-Some : goal.returns-in-Some
returns-in-Some c =
    let a = c.args in
    let q = c.requires.le_n in
    let w = words-within a.format a.slice.now a.n a.c c.requires.in_order _ c.in-Dirty-Dirty.is-0 q.0 q.4 in
    let m = part-length a.slice.now (a.c.next - 1) a.n w.1 in
    λ o l k.
    let f = facing a.format a.slice.now a.exists.now a.n a.c a.e o (λ i. (c.type_inv.slice i).fits) q.0 q.2 q.3 l k in
    found_as _ _ _ _ _ _ (Some c.in-Some.row) c.width-width.ensures m c.in-Some.ensures _
    (spells-parts _ _ a.slice.now a.exists.now (a.c.next - 1) (a.e.next - 1) a.n
    (seen-words f c.requires.in_order c.requires.in_order_2 _ c.in-Dirty-Dirty.is-0 _ c.in-Dirty-Dirty.is-1 q.4 q.5))

pub returns-in-None : goal.returns-in-None
returns-in-None c =
    let a = c.args in
    let q = c.requires.le_n in
    let w = words-within a.format a.slice.now a.n a.c c.requires.in_order _ c.in-Dirty-Dirty.is-0 q.0 q.4 in
    let m = part-length a.slice.now (a.c.next - 1) a.n w.1 in
    λ o l k.
    let f = facing a.format a.slice.now a.exists.now a.n a.c a.e o (λ i. (c.type_inv.slice i).fits) q.0 q.2 q.3 l k in (
      q.0,
      omega arith,
      found_as _ _ _ _ _ _ None c.width-width.ensures m c.in-None.ensures _
          (spells-parts _ _ a.slice.now a.exists.now (a.c.next - 1) (a.e.next - 1) a.n
          (seen-words f c.requires.in_order c.requires.in_order_2 _ c.in-Dirty-Dirty.is-0 _ c.in-Dirty-Dirty.is-1 q.4 q.5)),
    )

pub nth-requires : goal.nth-requires
nth-requires c = let f : Fits w32 c.over-y.result = search rules in has-bit _ f.fits c.if-y-ne0.true

pub returns-then-y-ne0 : goal.returns-then-y-ne0
returns-then-y-ne0 c =
    let a = c.args in
    let q = c.requires.le_n in
    let over : (n : ℕ) → n ≤ word_bits → word_of a.format a.c.piece < 2 ^ n
    → OverBits n (word_of a.format a.c.piece) (word_of a.format a.e.piece) c.over-y.result =
    subst₂ (λ (x y : ℕ). (n : ℕ) → n ≤ word_bits → x < 2 ^ n → OverBits n x y c.over-y.result) c.word.ensures c.word-in_default.ensures
    c.over-y.ensures in
    λ o l k.
    seen_first (facing a.format a.slice.now a.exists.now a.n a.c a.e o (λ i. (c.type_inv.slice i).fits) q.0 q.2 q.3 l k) _ over _
    c.if-y-ne0.true c.nth.ensures.0

pub returns-else-y-ne0 : goal.returns-else-y-ne0
returns-else-y-ne0 c =
    let a = c.args in
    let q = c.requires.le_n in
    let over : (n : ℕ) → n ≤ word_bits → word_of a.format a.c.piece < 2 ^ n
    → OverBits n (word_of a.format a.c.piece) (word_of a.format a.e.piece) c.over-y.result =
    subst₂ (λ (x y : ℕ). (n : ℕ) → n ≤ word_bits → x < 2 ^ n → OverBits n x y c.over-y.result) c.word.ensures c.word-in_default.ensures
    c.over-y.ensures in
    λ o l k. (
      omega arith,
      q.0,
      seen_none (facing a.format a.slice.now a.exists.now a.n a.c a.e o (λ i. (c.type_inv.slice i).fits) q.0 q.2 q.3 l k) _ over
          c.if-y-ne0.false,
    )
