-- `on_bodies::compress` meets its contract: the refusal of `plain::compress::check_plain`; or, by `plain_rows`, valid plain words, and then `plain::compress::write_plain`. Assumes nothing.
use lib.ListN.{length}
use Rattle.meaning.specs.Segment.{has_row}
use Rattle.meaning.specs.Answer.{plain_fault, write, compress}
use Rattle.answers.proofs.Checks.{sound-is}
use Rattle.answers.proofs.Tells.{wrote-stopped, wrote_then}
use Rattle.plain.proofs.PlainWords.{plain_rows}
use Rattle.on_bodies.proofs.compress.Goals as goal

pub write_plain-requires : goal.write_plain-requires
write_plain-requires c =
    let a = c.args in
    let words = c.shared_slice_known-1.given in
    plain_rows a.rows a.plain.now (λ i. (words i).fits)
    (sound-is c.check_plain.result (plain_fault a.rows a.plain.now) c.check_plain.ensures c.in_ok-check_plain.was)

pub returns-in_err-check_plain : goal.returns-in_err-check_plain
unfolding compress
returns-in_err-check_plain c =
    let a = c.args in
    wrote-stopped _ (plain_fault a.rows a.plain.now) (write a.format a.rows (has_row 32 a.plain.now) (length a.out.now)) _ _ _ c.check_plain.ensures c.in_err-check_plain.was c.from_residual.ensures.1

pub returns : goal.returns
unfolding compress
returns c =
    let a = c.args in
    let f = plain_fault a.rows a.plain.now in
    wrote_then c.check_plain.result f (write a.format a.rows (has_row 32 a.plain.now) (length a.out.now)) c.write_plain.result a.out.now c.write_plain.new.out c.check_plain.ensures c.in_ok-check_plain.was
    c.write_plain.ensures
