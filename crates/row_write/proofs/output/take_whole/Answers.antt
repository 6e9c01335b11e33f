-- `row_write::output::take_whole` meets its contract: by `packed-taken`, where there is a whole segment.
-- Assumes nothing.
use Prim.Native.Nat.{ℕ, ◌≤◌}
use mathlib.Core.Bool.{false}
use mathlib.Core.Path.{refl, sym, subst, ◌∙◌}
use native.Mathlib.Omega.{arith}
use borrow.Author.Tests.{leb-true}
use Rattle.meaning.specs.Segment.{all_set}
use Rattle.meaning.specs.Format.{width}
use Rattle.repack.specs.Packing.{Split}
use Rattle.row_write.proofs.Sending.{sent-room}
use Rattle.row_write.proofs.Packing.{take_next, packed-taken, put-none}
use Rattle.row_write.proofs.output.take_whole.Goals as goal

pub segment-v-requires-clause-room_for : goal.segment-v-requires-clause-room_for
segment-v-requires-clause-room_for g c =
    let F = c.args.format in
    let t = c.requires in
    let held = c.args.o.packer in
    let full = leb-true c.width-width.result held.have (sym c.full.ensures ∙ c.if-full.true) in
    let whole : width F ≤ held.have = omega (arith, c.width-width.ensures, full) in
    let split = subst (λ (n : ℕ). Split n held c.take-cut.result) c.width-width.ensures c.take-cut.ensures in
    λ e. sent-room t.4.packed.sent _
    (take_next F t.0 t.1 t.2 g.S.Sink.stores t.4.packed (omega (arith, t.4.within)) c.take-cut.result whole split) e

pub returns-then-full-clause-put_on : goal.returns-then-full-clause-put_on
unfolding all_set
returns-then-full-clause-put_on g c =
    let F = c.args.format in
    let held = c.args.o.packer in
    let full = leb-true c.width-width.result held.have (sym c.full.ensures ∙ c.if-full.true) in
    let whole : width F ≤ held.have = omega (arith, c.width-width.ensures, full) in
    let split = subst (λ (n : ℕ). Split n held c.take-cut.result) c.width-width.ensures c.take-cut.ensures in
    let emit = c.segment-v in
    put-none (λ j. false)
    (λ R q old d p all. packed-taken F R q old g.S.Sink.stores p all c.take-cut.result whole split _ _
    emit.ensures.same.1 refl (emit.ensures.emitted _ c.full-then-full.ensures))
