-- `new_index::layout::write_contents` meets its contract: by `headed-more`, each round puts one entry more behind the head.
-- Assumes nothing.
use mathlib.Core.Path.{refl}
use Rattle.new_index.proofs.LaidOut.{headed-more}
use native.Mathlib.Omega.{arith}
use Rattle.new_index.proofs.layout.write_contents.Goals as goal

pub loop-i-preserved : goal.loop-i-preserved
loop-i-preserved c =
    let l = c.loop-i in
    let p = c.requires.count_le_most_value_column in
    headed-more c.args.format _ c.args.rows c.args.starts.now c.args.count p.2 l.out l.i _ _ (omega arith) refl refl l.invariant
