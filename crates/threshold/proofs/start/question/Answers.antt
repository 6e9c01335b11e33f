-- `threshold::start::question` meets its contract: that of `ask`; by `take_all` the part behind word 0 is all the rest.
-- Assumes nothing.
use Prim.Native.Nat.{ℕ, ◌-◌}
use mathlib.Core.Path.{subst}
use mathlib.Core.List.{List}
use lib.ListN.{length, get_or, drop, length-drop}
use lib.Seq.{take_all}
use Rattle.threshold.specs.Output.{asked}
use Rattle.threshold.specs.Begins.{Begins}
use native.Mathlib.Omega.{arith}
use Rattle.threshold.proofs.start.question.Goals as goal

pub returns : goal.returns
returns c =
    let a = c.args in
    let w = a.words.now in
    subst (λ (x : List ℕ). Begins (asked (get_or w 0 0) x) c.ask.new.answer c.ask.result)
    (take_all (length w - 1) (drop 1 w) (omega (arith, length-drop 1 w))) c.ask.ensures
