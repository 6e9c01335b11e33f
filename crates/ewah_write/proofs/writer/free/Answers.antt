-- `ewah_write::writer::free` meets its contract: its branches decide the two tests of `free_of`. Assumes nothing.
use borrow.Author.Tests.{eq-eqb, ne_eqb}
use Rattle.ewah_write.specs.Drafts.{free_of}
use Rattle.ewah_write.proofs.writer.free.Goals as goal

pub returns-then-last-ne0 : goal.returns-then-last-ne0
unfolding free_of
returns-then-last-ne0 c = rw (ne_eqb _ 0 c.if-last-ne0.true)

pub returns-then-last-value : goal.returns-then-last-value
unfolding free_of
returns-then-last-value c = rw (eq-eqb _ 0 c.if-last-ne0.false, ne_eqb _ _ c.if-last-value.true)

pub returns : goal.returns
unfolding free_of
returns c = rw (eq-eqb _ 0 c.if-last-ne0.false, eq-eqb _ _ c.if-last-value.false)
