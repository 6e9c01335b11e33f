-- `row_write::output::put_whole` meets its contract: by `packed-run`. Assumes nothing.
use mathlib.Core.Path.{refl}
use native.Mathlib.Omega.{arith}
use Rattle.row_write.proofs.Sending.{sent-room}
use Rattle.row_write.proofs.Packing.{run-next, packed-run}
use Rattle.row_write.proofs.output.put_whole.Goals as goal

pub run-v-requires-clause-room_for : goal.run-v-requires-clause-room_for
run-v-requires-clause-room_for g c =
    let a = c.args in
    let p = c.requires.have_value in
    let t = c.requires.takes in
    λ e. sent-room t.4.packed.sent _
    (run-next a.format t.0 t.1 t.2 g.S.Sink.stores a.value a.n p.1 (omega (arith, c.if-n-eq0.false)) p.0 t.4) e

pub returns-clause-put_on : goal.returns-clause-put_on
returns-clause-put_on g c =
    let a = c.args in
    let p = c.requires.have_value in
    let run = c.run-v in
    record {
      on = λ R q old d t.
          packed-run a.format R q old g.S.Sink.stores a.value a.n p.1 (omega (arith, c.if-n-eq0.false)) p.0 t _ _ run.ensures.same.1 refl
          run.ensures.emitted;
    }
