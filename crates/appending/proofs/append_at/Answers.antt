-- `appending::append_at` meets its contract: 3 by `over`; and by `within` the fault of the plain words, or what `extend::extend` tells.
-- Assumes nothing.
use native.Mathlib.Omega.{arith}
use Prim.Native.Nat.{◌+◌, ◌≤◌}
use mathlib.Core.Path.{sym, ap, ◌∙◌}
use lib.ListN.{length}
use Rattle.meaning.specs.Limits.{most_rows}
use Rattle.meaning.specs.Segment.{has_row}
use Rattle.meaning.specs.Answer.{plain_fault, write}
use Rattle.meaning.specs.declared.Format.TheVariants.{Ewah}
use Rattle.batches.specs.Append.{followed}
use Rattle.answers.specs.Told.{refused_by}
use Rattle.answers.proofs.Checks.{sound-is}
use Rattle.answers.proofs.Tells.{wrote-refused, wrote_then, wrote-stopped}
use Rattle.plain.proofs.PlainWords.{plain_rows}
use Rattle.appending.specs.Batched.{batch_of}
use Rattle.appending.proofs.Answered.{over, within}
use Rattle.appending.proofs.append_at.Goals as goal

pub returns-then-rows-more : goal.returns-then-rows-more
returns-then-rows-more c q g =
    let a = c.args in
    wrote-refused a.out.now _ _
    (ap refused_by c.too_many_rows.ensures
    ∙ over a.rows q (batch_of a.more a.plain.now) (length a.out.now) (omega (arith, c.if-rows-more.true)))

pub extend-requires : goal.extend-requires
extend-requires c =
    let a = c.args in
    let valid = plain_rows a.more a.plain.now (λ i. (c.type_inv.plain i).fits)
    (sound-is c.check_plain.result (plain_fault a.more a.plain.now) c.check_plain.ensures c.in_ok-check_plain.was) in record {
      plain_rows = (valid, omega (arith, c.requires.rows_le_most_rows, c.if-rows-more.false));
      by_index = c.requires.by_index;
    }

pub returns-in_err-check_plain : goal.returns-in_err-check_plain
returns-in_err-check_plain c q g =
    let a = c.args in
    let b = batch_of a.more a.plain.now in
    rw (within a.rows q b (length a.out.now) (omega (arith, c.requires.rows_le_most_rows, c.if-rows-more.false)))
    (wrote-stopped _ _ _ _ _ _ c.check_plain.ensures c.in_err-check_plain.was c.from_residual.ensures.1)

pub returns : goal.returns
returns c q g =
    let a = c.args in
    let b = batch_of a.more a.plain.now in
    let longer = write Ewah (a.rows + a.more) (followed a.rows q (has_row 32 a.plain.now)) (length a.out.now) in
    rw (within a.rows q b (length a.out.now) (omega (arith, c.requires.rows_le_most_rows, c.if-rows-more.false)))
    (wrote_then c.check_plain.result (plain_fault a.more a.plain.now) longer c.extend.result a.out.now c.extend.new.out
    c.check_plain.ensures c.in_ok-check_plain.was (c.extend.ensures q g))
