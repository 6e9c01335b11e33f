-- `ranks::write::write` meets its contract.
-- Assumes nothing.
use Prim.Native.Nat.{ℕ, ◌≤◌}
use mathlib.Core.Path.{refl, ap, subst, subst₂}
use mathlib.Core.Bool.{true}
use mathlib.Core.List.{List}
use lib.ListN.{length}
use Rattle.meaning.specs.Format.{canonical}
use Rattle.meaning.specs.declared.Format.{Format}
use Rattle.ranks.specs.Passes.{cut_rows, cut_body, Passed}
use Rattle.ranks.proofs.Writing.{rank-fits, rank-lacks}
use native.Mathlib.Omega.{arith}
use Rattle.ranks.proofs.write.write.Goals as goal

pub returns-then-most_words-out : goal.returns-then-most_words-out
returns-then-most_words-out c =
    let a = c.args in
    let rows = cut_rows a.op a.index.now a.list.now c.find-p.result.value c.cut-row.result in
    let fits : length (cut_body a.op a.index.now a.list.now c.find-p.result.value c.cut-row.result) ≤ c.most_words.result =
    subst₂ (λ (G : Format) (r : ℕ). length (canonical G r rows) ≤ c.most_words.result) c.format.ensures c.rows.ensures (c.most_words.ensures _) in
    rank-fits c.find-p.ensures c.cut-row.ensures c.pass.ensures (omega (arith, fits, c.if-most_words-out.true))

pub returns-then-out-need : goal.returns-then-out-need
returns-then-out-need c =
    let p = c.pass-need.ensures in
    rank-lacks c.find-p.ensures c.cut-row.ensures p (omega (arith, c.if-out-need.true, ap length (p.kept refl)))

pub returns : goal.returns
returns c =
    let a = c.args in
    let p = c.pass-need.ensures in
    rank-fits c.find-p.ensures c.cut-row.ensures
    (subst (λ (b : List ℕ). Passed a.op a.index.now a.list.now c.find-p.result.value c.cut-row.result b c.pass-2.new.out true c.pass-2.result)
    (p.kept refl) c.pass-2.ensures)
    (omega (arith, p.words, c.if-out-need.false, ap length (p.kept refl)))
