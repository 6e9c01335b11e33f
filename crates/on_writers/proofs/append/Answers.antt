-- `on_writers::append` meets its contract: on a refusal the state stays, and else it moves on. Assumes nothing.
use native.Mathlib.Omega.{arith}
use Rattle.appending.specs.Batched.{batch_of}
use Rattle.appending.proofs.Answered.{few-rows, state-stays, state-moves}
use Rattle.on_writers.proofs.append.Goals as goal

pub returns-in_err-words-clause-state_after : goal.returns-in_err-words-clause-state_after
returns-in_err-words-clause-state_after c =
    let a = c.args in
    let k = c.answer_batch in state-stays a.state.now (batch_of a.rows a.plain.now) k.result k.ensures _ c.in_err-words.was

pub overflow_add-state : goal.overflow_add-state
overflow_add-state c =
    let a = c.args in
    let k = c.answer_batch in
    record { fits = omega (arith, few-rows a.state.now (batch_of a.rows a.plain.now) k.result k.ensures _ c.in_ok-words.was) }

pub returns-clause-state_after : goal.returns-clause-state_after
returns-clause-state_after c =
    let a = c.args in
    let k = c.answer_batch in state-moves a.state.now (batch_of a.rows a.plain.now) k.result k.ensures _ c.in_ok-words.was
