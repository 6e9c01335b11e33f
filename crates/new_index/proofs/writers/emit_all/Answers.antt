-- `new_index::writers::emit_all` meets its contract: by `going_more`, each round puts one row more to its body's part.
-- Assumes nothing.
use Prim.Native.Nat.{◌+◌, ◌*◌, ◌≤◌}
use lib.ListN.{length}
use Rattle.meaning.specs.Limits.{block_segments}
use Rattle.new_index.proofs.Regions.{going_more, going-all}
use Rattle.new_index.proofs.RowParts.{row_low, row_is, row_first, row-each}
use native.Mathlib.Omega.{arith}
use Rattle.new_index.proofs.writers.emit_all.Goals as goal

pub emit_row-v-requires-clause-growing : goal.emit_row-v-requires-clause-growing
emit_row-v-requires-clause-growing c =
    let l = c.loop-i in
    rw (l.invariant.ahead l.i (omega arith)) (c.requires.by_index l.i (omega arith))

pub emit_row-v-requires-clause-le_n : goal.emit_row-v-requires-clause-le_n
emit_row-v-requires-clause-le_n c =
    let p = c.requires.rows_len in
    let a = c.args in
    let k = c.loop-i.i in
    let e = c.row_length-long.ensures in
    let fits : k * block_segments + c.row_length-long.result ≤ length a.rows.now = omega (arith, e, row_low a.n a.even p.3) in (
      p.1,
      p.2,
      λ t. row_first a.format a.rows.now a.n a.even k _ e fits t (c.requires.clean_word t k (omega arith)),
      λ t. row-each a.format a.rows.now a.n a.even k _ e fits t,
    )

pub emit_row-v-requires-clause-room_for : goal.emit_row-v-requires-clause-room_for
emit_row-v-requires-clause-room_for c =
    let l = c.loop-i in
    let a = c.args in
    let is = row_is a.format a.rows.now a.n a.even l.i _ c.row_length-long.ensures in
    λ t. rw (l.invariant.ahead l.i (omega arith), is, l.invariant.same l.i (omega arith) (omega arith))
    (c.requires.room_for t l.i (omega arith))

pub loop-i-preserved : goal.loop-i-preserved
loop-i-preserved c =
    let l = c.loop-i in
    let a = c.args in
    let e = c.emit_row-v in
    let is = row_is a.format a.rows.now a.n a.even l.i _ c.row_length-long.ensures in
    going_more a.format a.mask a.starts.now a.out.now a.writers.now _ _ a.store c.requires.laid l.out l.writers l.i l.invariant
    (omega arith) e.new.out e.result e.auto.out (λ real f. rw is at (e.ensures real f)) (omega arith)

pub returns : goal.returns
returns c =
    let l = c.loop-i in
    let a = c.args in
    going-all a.format a.mask a.starts.now a.out.now a.writers.now _ _ a.store c.requires.laid l.out l.writers l.i l.invariant (omega arith)
