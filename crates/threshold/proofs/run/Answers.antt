-- `threshold::run` writes the output of what it read: the line of a refusal, or the head and the listing behind it. Where no read
-- failed, that is the output of all that the reader had.
-- Assumes nothing.
use Rattle.std.proofs.Common.{sym, subst, take, rules}
use Rattle.std.specs.Io.KnownBytes.{Appends}
use Rattle.std.proofs.KnownBytes.{Appends-trans}
use Rattle.threshold.proofs.Writing.{all-left}
use Rattle.threshold.proofs.Whole.{ended-output}
use Rattle.threshold.proofs.run.Goals as goal

pub returns-in_ok-say-in-Err : goal.returns-in_ok-say-in-Err
returns-in_ok-say-in-Err g c =
    let r = c.read_full-bytes in
    let old = g.W.Write.contents c.args.writer.now in
    let read = take r.result.bytes r.new.buf in
    ended-output r.result.ended _ _ read r.result.bytes _ (Appends old _) r.ensures.len (search rules) r.ensures.front r.ensures.end
    (subst (Appends old _) (sym c.in-Err.ensures) c.in_ok-say-in-Err.ensures)

pub returns-in_ok-list-in-Ok : goal.returns-in_ok-list-in-Ok
returns-in_ok-list-in-Ok g c =
    let r = c.read_full-bytes in
    let b = c.in-Ok.begun in
    let of = c.new.ensures.of in
    let old = g.W.Write.contents c.args.writer.now in
    let read = take r.result.bytes r.new.buf in
    let w = Appends-trans old _ _ _ _ c.in_ok-say-in-Ok.ensures (subst (Appends _ _) (all-left c.new.result _ _ _ of.0 of.1 of.2 c.new.ensures.row) c.in_ok-list-in-Ok.ensures) in
    ended-output r.result.ended _ _ read r.result.bytes _ (Appends old _) r.ensures.len (search rules) r.ensures.front r.ensures.end
    (subst (Appends old _) (sym c.in-Ok.ensures.is) w)
