-- `row_write::output::finish` meets its contract: by `finished-part`, where a segment is begun. Assumes nothing.
use Prim.Native.Nat.{ℕ, ◌%◌, ◌^◌, ◌≤◌}
use mathlib.Core.Path.{◌≡◌, ap, ◌∙◌}
use lib.Pow.{pow_mono}
use native.Mathlib.Nat.{mod-eq_of_lt}
use native.Mathlib.Omega.{arith}
use Rattle.meaning.specs.Segment.{kind, all_set}
use Rattle.meaning.specs.Format.{width}
use Rattle.laws.proofs.Formats.{width-le}
use Rattle.row_write.proofs.Sending.{sent-room}
use Rattle.row_write.proofs.Packing.{finished-whole, finished-part, last-next}
use Rattle.row_write.proofs.output.finish.Goals as goal

pub returns-then-held-eq0-clause-rewritten : goal.returns-then-held-eq0-clause-rewritten
returns-then-held-eq0-clause-rewritten g c =
    λ R q old p.
    finished-whole c.args.format R q old g.S.Sink.stores p c.if-held-eq0.true

-- the word of the segment begun, as the writer takes it, is of the kind of its rows
pub segment-v-requires-clause-room_for : goal.segment-v-requires-clause-room_for
unfolding all_set
segment-v-requires-clause-room_for g c =
    let F = c.args.format in
    let have = c.args.o.packer.have in
    let word = c.args.o.packer.word in
    let t = c.requires.by_index in
    let p = t.3 in
    let few = c.requires.have_bound in
    let most : 2 ^ have ≤ 2 ^ 32 = pow_mono {i = have} {j = 32} (omega (arith, few, width-le F)) in
    let x = c.lowest.ensures ∙ mod-eq_of_lt (omega (arith, p.low, most)) in
    let is = (c.spelled-x.ensures (width F) have (omega (arith, c.if-held-eq0.false)) (omega (arith, few)) c.full.ensures c.low_ones-mask.ensures).0
    ∙ ap (λ (z : ℕ). kind have (z % 2 ^ have)) x ∙ ap (kind have) (mod-eq_of_lt p.low) in
    λ e. sent-room p.sent _ (last-next F t.0 t.1 t.2 g.S.Sink.stores p c.spelled-x.result c.if-held-eq0.false few is) e

pub returns-clause-rewritten : goal.returns-clause-rewritten
unfolding all_set
returns-clause-rewritten g c =
    λ R q old p.
    let F = c.args.format in
    let have = c.args.o.packer.have in
    let emit = c.segment-v in
    let few = c.requires.have_bound in
    let most : 2 ^ have ≤ 2 ^ 32 = pow_mono {i = have} {j = 32} (omega (arith, few, width-le F)) in
    let x = c.lowest.ensures ∙ mod-eq_of_lt (omega (arith, p.low, most)) in
    let is = (c.spelled-x.ensures (width F) have (omega (arith, c.if-held-eq0.false)) (omega (arith, few)) c.full.ensures c.low_ones-mask.ensures).0
    ∙ ap (λ (z : ℕ). kind have (z % 2 ^ have)) x ∙ ap (kind have) (mod-eq_of_lt p.low) in
    finished-part F R q old g.S.Sink.stores p c.spelled-x.result c.if-held-eq0.false few is _ _ emit.ensures.same.1 (emit.ensures.emitted have c.low_ones-mask.ensures)
