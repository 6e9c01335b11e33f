-- `ewah::marker::Markers::next` meets its contract: a body that lacks no dirty word has those that its first marker announces.
-- Assumes nothing.
use native.Mathlib.Omega.{arith}
use Prim.Native.Nat.{ℕ}
use mathlib.Core.Path.{◌≡◌, ap, ◌∙◌}
use lib.ListN.{drop}
use Rattle.meaning.specs.Ewah.{due_after}
use Rattle.ewah.proofs.Taking.{announced, all-behind}
use Rattle.ewah.proofs.marker.MarkersIterator.next.Goals as goal

pub split_at-requires : goal.split_at-requires
split_at-requires c =
    let w = c.in_ok-word in
    omega (arith, c.read-m.ensures.dirty-is, announced c.args.self.now.rest.now w.word.now w.behind.now c.requires w.ensures.cases.0)

pub returns-clause-goes : goal.returns-clause-goes
returns-clause-goes c =
    let w = c.in_ok-word in
    let p = c.split_at.ensures in
    let left : due_after 0 c.split_at.result.1.now ≡ 0 =
    ap (due_after 0) (p.back ∙ ap (λ (n : ℕ). drop n w.behind.now) c.read-m.ensures.dirty-is)
    ∙ all-behind c.args.self.now.rest.now w.word.now w.behind.now c.requires w.ensures.cases.0 in
    record {
      on = λ _. (left, tt, omega (arith, p.back_len, w.ensures.cases.1));
      keeps = left;
      rests = λ _. tt;
    }
