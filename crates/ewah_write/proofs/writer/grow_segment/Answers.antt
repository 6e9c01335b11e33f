-- `ewah_write::writer::grow_segment` meets its contract: `kind-clean` and `kind-other` say which kind the word has in each
-- way. Assumes nothing.
use native.Mathlib.Omega.{arith}
use mathlib.Core.Path.{refl}
use Rattle.meaning.specs.Segment.{all_set}
use Rattle.ewah_write.proofs.Growing.{kind-clean, kind-other}
use Rattle.ewah_write.proofs.writer.grow_segment.Goals as goal

pub returns-then-is_clean : goal.returns-then-is_clean
unfolding all_set
returns-then-is_clean c =
    let k = c.is_clean in
    rw (kind-clean 32 c.args.x _ (k.ensures 32 (omega arith) refl) c.if-is_clean.true) c.grow_run.ensures

pub returns : goal.returns
unfolding all_set
returns c =
    let k = c.is_clean in
    rw (kind-other 32 c.args.x _ (k.ensures 32 (omega arith) refl) c.if-is_clean.false) (c.grow_mixed.ensures c.args.x)
