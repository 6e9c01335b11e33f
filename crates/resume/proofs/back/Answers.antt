-- `resume::back` meets its contract, way by way. Assumes nothing.
use native.Mathlib.Omega.{arith}
use Rattle.resume.proofs.Shortening.{none_left, word_back, run-back}
use Rattle.resume.proofs.back.Goals as goal

pub returns-then-last-eq1 : goal.returns-then-last-eq1
returns-then-last-eq1 c b n l = none_left l (omega arith)

pub returns-then-last-ne0 : goal.returns-then-last-ne0
returns-then-last-ne0 c b n l = word_back l (λ e. c.if-last-eq1.false (omega arith)) c.if-last-ne0.true

pub returns : goal.returns
returns c b n l = run-back l (λ e. c.if-last-eq1.false (omega arith)) c.if-last-ne0.false
