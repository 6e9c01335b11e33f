-- `wah_write::writer::push_segment` meets its contract: `kind-clean` and `kind-other` carry the room and the push
-- between the word and its kind. Assumes nothing.
use native.Mathlib.Omega.{arith}
use mathlib.Core.Path.{refl}
use Rattle.meaning.specs.Segment.{all_set}
use Rattle.ewah_write.proofs.Growing.{kind-clean, kind-other}
use Rattle.wah_write.proofs.writer.push_segment.Goals as goal

pub push_run-requires-clause-room_for : goal.push_run-requires-clause-room_for
unfolding all_set
push_run-requires-clause-room_for c =
    let k = c.is_clean in
    rw (kind-clean 31 c.args.x _ (k.ensures 31 (omega arith) refl) c.if-is_clean.true) at c.requires.room_for

pub returns-then-is_clean : goal.returns-then-is_clean
unfolding all_set
returns-then-is_clean c =
    let x = c.args.x in
    rw (kind-clean 31 x _ (c.is_clean.ensures 31 (omega arith) refl) c.if-is_clean.true) c.push_run.ensures

pub push_mixed-requires : goal.push_mixed-requires
unfolding all_set
push_mixed-requires c =
    let k = c.is_clean in
    rw (kind-other 31 c.args.x _ (k.ensures 31 (omega arith) refl) c.if-is_clean.false) at c.requires.room_for

pub returns : goal.returns
unfolding all_set
returns c =
    let x = c.args.x in
    rw (kind-other 31 x _ (c.is_clean.ensures 31 (omega arith) refl) c.if-is_clean.false) (λ real e. c.push_mixed.ensures real)
