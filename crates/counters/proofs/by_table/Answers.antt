-- `counters::by_table` meets its contract. The invariant: the rows so far are those of which the entries below k tell.
-- Assumes nothing.
use mathlib.Core.Bool.{◌||◌}
use mathlib.Core.Path.{sym, ap, ap₂, ◌∙◌}
use Prim.Native.Nat.{ℕ, ◌+◌}
use Rattle.meaning.specs.Segment.{is_set}
use Rattle.laws.proofs.Counting.{zero_clear}
use Rattle.counters.specs.Counters.{count_at}
use Rattle.words.proofs.BitLaws.{or_set}
use Rattle.words.proofs.Tests.{eqb-more}
use Rattle.words.proofs.Entries.{told-before, told-one, told-else, told-all}
use borrow.Author.Rules.{rules}
use native.Mathlib.Omega.{arith}
use Rattle.counters.proofs.by_table.Goals as goal
use Rattle.counters.proofs.by_table.Goals.{then-table-k-eq1, else-table-k-eq1}

pub loop-k-init : goal.loop-k-init
loop-k-init c =
    let a = c.args in
    (search rules, λ j l. zero_clear j ∙ sym (told-before a.table.now a.base (a.base + count_at a.planes j) (omega arith)))

pub loop-k-preserved : goal.loop-k-preserved
loop-k-preserved c =
    let h = c.loop-k in
    let a = c.args in (
      search rules,
      λ j l.
          let n = a.base + count_at a.planes j in
          elim c.if-table-k-eq1.branch [
            | then-table-k-eq1 w ↦
                ap (λ (x : ℕ). is_set x j) w.r-is ∙ or_set h.r w.equals-r.result j
                ∙ ap₂ ◌||◌ (h.invariant.1 j l) (w.equals-r.ensures j l ∙ eqb-more a.base (count_at a.planes j) h.k h.invariant.0)
                ∙ sym (told-one a.table.now h.k n w.if-table-k-eq1.true)
            | else-table-k-eq1 w ↦
                ap (λ (x : ℕ). is_set x j) w.r-is ∙ h.invariant.1 j l ∙ sym (told-else a.table.now h.k n w.if-table-k-eq1.false)
          ],
    )

pub returns : goal.returns
returns c j l =
    let h = c.loop-k in
    let a = c.args in
    h.invariant.1 j l ∙ told-all a.table.now h.k (a.base + count_at a.planes j) (omega arith)
