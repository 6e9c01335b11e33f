-- `extend::extend` meets its contract: what surely fits is written, and else it is measured; where it does not fit by `write-none`.
-- Assumes nothing.
use Prim.Native.Nat.{◌+◌}
use mathlib.Core.List.{[]}
use native.Mathlib.Omega.{arith}
use Rattle.meaning.specs.declared.Format.TheVariants.{Ewah}
use Rattle.answers.proofs.Tells.{write-none}
use Rattle.extend.specs.Longer.{longer}
use Rattle.extend.proofs.Reopening.{measured-next}
use Rattle.extend.proofs.extend.Goals as goal

pub feed-need-requires-clause-by_index : goal.feed-need-requires-clause-by_index
feed-need-requires-clause-by_index c =
    let a = c.args in
    let at = c.requires.by_index in
    (a.before, longer a.before at.0 a.plain.now, [], measured-next at.1 a.plain.now a.rows c.requires.plain_rows.1 c.reopen.result c.reopen.ensures [])

pub returns-then-out-need : goal.returns-then-out-need
returns-then-out-need c q at =
    let a = c.args in
    let rows = longer a.before q a.plain.now in
    let need = c.feed-need.ensures.rewritten a.before rows []
    (measured-next at a.plain.now a.rows c.requires.plain_rows.1 c.reopen.result c.reopen.ensures []) in
    write-none Ewah (a.before + a.rows) rows a.out.now c.feed-need.result need.words_are c.no_room.result c.no_room.ensures
    (omega (arith, c.if-out-need.true))

pub write-requires-2-clause-by_index : goal.write-requires-2-clause-by_index
write-requires-2-clause-by_index c =
    let a = c.args in
    let at = c.requires.by_index in
    let need = c.feed-need.ensures.rewritten a.before (longer a.before at.0 a.plain.now) []
    (measured-next at.1 a.plain.now a.rows c.requires.plain_rows.1 c.reopen.result c.reopen.ensures []) in
    (at.0, at.1, omega (arith, need.words_are, c.if-out-need.false))

pub returns : goal.returns
returns c q at =
    let a = c.args in
    let need = c.feed-need.ensures.rewritten a.before (longer a.before q a.plain.now) []
    (measured-next at a.plain.now a.rows c.requires.plain_rows.1 c.reopen.result c.reopen.ensures []) in
    c.write-2.ensures q at (omega (arith, need.words_are, c.if-out-need.false))
