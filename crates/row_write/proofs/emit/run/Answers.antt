-- `row_write::emit::run` meets its contract. The invariant: all but the last `left` segments are emitted.
-- Assumes nothing.
use native.Mathlib.Omega.{arith}
use Prim.Native.Nat.{ℕ, ◌+◌, ◌-◌}
use mathlib.Core.Path.{◌≡◌, ap, ◌∙◌}
use lib.ListN.{length, replicate, length-replicate, replicate-append-replicate}
use mathlib.Core.List.{◌++◌}
use Rattle.meaning.specs.Segment.{clean, all_set}
use Rattle.body_write.proofs.Emitting.{emitted-more}
use Rattle.row_write.proofs.Emitting.{grow-fewer, run-first, run-rest, run-growing}
use Rattle.row_write.proofs.emit.run.Goals as goal

pub run-v-requires-clause-room_for : goal.run-v-requires-clause-room_for
run-v-requires-clause-room_for g c =
    let h = c.loop-left in
    λ e. run-first (clean c.args.value) _ h.left c.at_once-k.ensures.0 (h.invariant.2 e)

pub loop-left-preserved : goal.loop-left-preserved
unfolding all_set
loop-left-preserved g c =
    let h = c.loop-left in
    let p = c.run-v in
    let em = p.ensures.emitted _ c.full-full.ensures in
    let s = clean c.args.value in
    let k = c.at_once-k.result in
    let le = c.at_once-k.ensures.0 in
    let a = c.args in
    let done = a.n - h.left in
    let sum : done + k ≡ a.n - (h.left - k) = omega (arith, h.invariant.0) in
    let is = replicate-append-replicate done k s ∙ ap (λ (m : ℕ). replicate m s) sum in
    let all = grow-fewer (length (replicate done s ++ replicate k s)) a.n
    (omega (arith, ap length is, length-replicate (a.n - (h.left - k)) s)) c.requires.growing in (
      omega (arith, h.invariant.0),
      run-growing s k h.left le h.invariant.1 em.grown,
      λ e. rw p.ensures.same.1 (run-rest s k h.left le (h.invariant.2 e) em.grown),
      p.ensures.same.1 ∙ h.invariant.3,
      p.ensures.same.0 ∙ h.invariant.4,
      rw is at (emitted-more (replicate done s) (replicate k s) all h.invariant.5 em),
    )
