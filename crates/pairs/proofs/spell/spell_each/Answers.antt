-- `pairs::spell::spell_each` meets its contract. The invariant: word w of the first i rows is spelled.
-- Assumes nothing.
use native.Mathlib.Omega.{arith}
use Rattle.meaning.specs.Format.{width}
use Rattle.pairs.proofs.Spelling.{spelled-more}
use Rattle.pairs.proofs.spell.spell_each.Goals as goal

pub loop-i-preserved : goal.loop-i-preserved
loop-i-preserved c =
    let h = c.loop-i in
    let a = c.args in
    λ F f.
    spelled-more F a.z.now a.w a.mask h.z h.i _ (h.invariant F f) (omega arith)
    (λ real some most e. (c.spelled.ensures (width F) real some most f e).0)
