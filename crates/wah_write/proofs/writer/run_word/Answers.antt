-- `wah_write::writer::run_word` meets its contract: `word-single` and `word-many` are its two ways. Assumes nothing.
use Prim.Native.Nat.{ℕ}
use mathlib.Core.Path.{ap, sym, ◌∙◌}
use mathlib.Core.List.{[], ◌∷◌}
use Rattle.wah_write.proofs.Runs.{word-single, word-many}
use Rattle.wah_write.proofs.writer.run_word.Goals as goal

pub returns-then-n-eq1 : goal.returns-then-n-eq1
returns-then-n-eq1 c = λ real e. rw c.if-n-eq1.true (word-single c.args.value c.args.mask real e)

pub returns : goal.returns
returns c =
    λ real e. word-many c.args.value c.args.n real c.requires.1 c.if-n-eq1.false ∙ ap (λ (x : ℕ). x ∷ []) (sym c.fill_word.ensures)
