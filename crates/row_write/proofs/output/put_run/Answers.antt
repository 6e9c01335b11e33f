-- `row_write::output::put_run` meets its contract: by `put-join`, three steps are one. Assumes nothing.
use Prim.Native.Nat.{ℕ, ◌+◌, ◌-◌, ◌*◌, ◌/◌, ◌%◌}
use mathlib.Core.Path.{◌≡◌, refl, ap}
use native.Mathlib.Nat.{div-add-mod'}
use native.Mathlib.Omega.{arith}
use Rattle.meaning.specs.Format.{width}
use Rattle.row_write.proofs.Packing.{put-join, takes_first, takes-after}
use Rattle.row_write.proofs.output.put_run.Goals as goal

-- the segment begun is full, and went on
pub put_whole-b-requires-clause-takes : goal.put_whole-b-requires-clause-takes
put_whole-b-requires-clause-takes g c =
    let F = c.args.format in
    let k = c.lacking-k.result in
    let left = c.args.n - k in
    let w = c.width-w.result in
    let n = left / w in
    let parts : c.args.n ≡ k + n * width F + left % w =
    omega (arith, c.if-n-k.false, div-add-mod' left w, ap (λ (m : ℕ). n * m) c.width-w.ensures) in
    takes-after {a = k} (λ j h. refl) refl c.put_part-a.ensures.put_on
    (takes_first (k + n * width F) c.args.n (omega (arith, parts)) c.requires.takes)

-- the whole segments went on, too
pub put_part-requires-2-clause-takes : goal.put_part-requires-2-clause-takes
put_part-requires-2-clause-takes g c =
    let F = c.args.format in
    let k = c.lacking-k.result in
    let left = c.args.n - k in
    let w = c.width-w.result in
    let n = left / w in
    let parts : c.args.n ≡ k + n * width F + left % w =
    omega (arith, c.if-n-k.false, div-add-mod' left w, ap (λ (m : ℕ). n * m) c.width-w.ensures) in
    let joined = put-join {a = k} (λ j h. refl) refl c.put_part-a.ensures.put_on c.put_whole-b.ensures.put_on in
    takes-after {a = k + n * width F} (λ j h. refl) parts joined c.requires.takes

pub returns-clause-put_on : goal.returns-clause-put_on
returns-clause-put_on g c =
    let F = c.args.format in
    let k = c.lacking-k.result in
    let left = c.args.n - k in
    let w = c.width-w.result in
    let n = left / w in
    let parts : c.args.n ≡ k + n * width F + left % w =
    omega (arith, c.if-n-k.false, div-add-mod' left w, ap (λ (m : ℕ). n * m) c.width-w.ensures) in
    let joined = put-join {a = k} (λ j h. refl) refl c.put_part-a.ensures.put_on c.put_whole-b.ensures.put_on in
    put-join {a = k + n * width F} (λ j h. refl) parts joined c.put_part-2.ensures.put_on
