-- `row_write::output::put_word` meets its contract: by `put-join`, three steps are one. Assumes nothing.
use Prim.Native.Nat.{◌+◌, ◌≤◌}
use mathlib.Core.Bool.{false}
use mathlib.Core.Path.{refl}
use native.Mathlib.Omega.{arith}
use Rattle.meaning.specs.Format.{width}
use Rattle.row_write.proofs.Packing.{put-added, put-join, takes-after, width-ge}
use Rattle.row_write.proofs.output.put_word.Goals as goal

pub take_whole-once-requires : goal.take_whole-once-requires
take_whole-once-requires g c =
    let out = g.S.Sink.words c.args.out.now in
    takes-after {b = 0} (λ j h. absurd (omega arith)) (omega arith) (put-added out c.requires.have_bound.2 c.add.ensures refl) c.requires.takes

pub take_whole-requires : goal.take_whole-requires
take_whole-requires g c =
    let out = g.S.Sink.words c.args.out.now in
    takes-after {b = 0} (λ j h. refl) refl c.take_whole-once.ensures.put_on
    (takes-after {b = 0} (λ j h. absurd (omega arith)) (omega arith) (put-added out c.requires.have_bound.2 c.add.ensures refl) c.requires.takes)

pub returns-clause-put_on : goal.returns-clause-put_on
returns-clause-put_on g c =
    let F = c.args.format in
    let out = g.S.Sink.words c.args.out.now in
    let added = put-added out c.requires.have_bound.2 c.add.ensures refl in
    let have = c.add.ensures.have in
    let most : c.add.result.have ≤ width F + width F = omega (arith, have, c.requires.have_bound, width-ge F) in
    put-join {a = c.args.k} {b = 0} (λ j h. absurd (omega arith)) (omega arith)
    (put-join {a = c.args.k} {b = 0} (λ j h. absurd (omega arith)) (omega arith) added c.take_whole-once.ensures.put_on) c.take_whole.ensures.put_on
