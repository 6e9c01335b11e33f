-- `wah_write::writer::grow_run` meets its contract: `grown-in` and `grown-new` are its ways. Assumes nothing.
use mathlib.Core.Logic.{inl, inr}
use Rattle.wah_write.proofs.Growing.{grown-in, grown-new}
use Rattle.wah_write.proofs.writer.grow_run.Goals as goal

pub returns-then-last-eq0 : goal.returns-then-last-eq0
returns-then-last-eq0 c =
    let p = c.requires in
    rw c.ending.ensures
    (grown-new c.args.w c.args.value c.args.n p.1 p.2 p.3 (inl c.if-last-eq0.true))

pub returns-then-last-value : goal.returns-then-last-value
returns-then-last-value c =
    let p = c.requires in
    rw c.ending-then-last-value.ensures
    (grown-new c.args.w c.args.value c.args.n p.1 p.2 p.3 (inr c.if-last-value.true))

pub returns : goal.returns
returns c =
    let p = c.requires in
    rw c.ending-2.ensures
    (grown-in c.args.w c.args.value c.args.n p.1 p.2 p.3
    c.if-last-eq0.false c.if-last-value.false)
