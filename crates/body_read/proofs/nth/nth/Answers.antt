-- `body_read::nth::nth` meets its contract: by the format, its own search.
-- Assumes nothing.
use Prim.Native.Nat.{ℕ}
use mathlib.Core.Bool.{Bool}
use mathlib.Core.Path.{ap, ◌∙◌}
use Rattle.meaning.specs.Answer.{ask_nth}
use Rattle.body_read.proofs.Either.{rows-ewah, rows-wah}
use Rattle.body_read.proofs.nth.nth.Goals as goal

pub returns-in-Ewah : goal.returns-in-Ewah
returns-in-Ewah c =
    let a = c.args in
    let same = rows-ewah a.format a.body.now c.in-Ewah.is in
    c.nth.ensures ∙ ap (λ (p : ℕ → Bool). ask_nth a.rows p a.n) same

pub returns-in-Wah : goal.returns-in-Wah
returns-in-Wah c =
    let a = c.args in
    let same = rows-wah a.format a.body.now c.in-Wah.is in
    c.nth-in-Wah.ensures ∙ ap (λ (p : ℕ → Bool). ask_nth a.rows p a.n) same
