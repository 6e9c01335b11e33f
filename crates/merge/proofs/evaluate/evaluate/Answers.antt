-- `merge::evaluate::evaluate` meets its contract: each way is a law of `Evaluating`.
-- Assumes nothing.
use mathlib.Core.Path.{sym, ◌∙◌}
use Rattle.meaning.specs.Format.{width}
use Rattle.merge.proofs.Evaluating.{word-part, zeros-part, ones-part}
use Rattle.merge.proofs.evaluate.evaluate.Goals as goal

pub returns-then-s-ne0 : goal.returns-then-s-ne0
returns-then-s-ne0 c =
    λ F Full-is.
    let w = c.word in
    let a = c.args in
    word-part F a.op a.table.now a.s a.mask c.if-s-ne0.true
    w.result w.ensures c.spelled.result
    (λ real some most m. (c.spelled.ensures (width F) real some most Full-is m).0)

pub returns-then-holds : goal.returns-then-holds
returns-then-holds c =
    λ F Full-is.
    let a = c.args in
    let e = sym c.holds.ensures ∙ c.if-holds.true in
    ones-part F a.op a.table.now a.s a.mask c.if-s-ne0.false e

pub returns : goal.returns
returns c =
    λ F Full-is.
    let a = c.args in
    let e = sym c.holds.ensures ∙ c.if-holds.false in
    zeros-part F a.op a.table.now a.s a.mask c.if-s-ne0.false e
