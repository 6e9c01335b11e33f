-- `ewah_count::count::count_run` meets its contract: by `fill-count` a clean segment has 32 set bits or none, and by `ones-replicate` a run its length times as many.
-- Assumes nothing.
use Prim.Native.Nat.{ℕ, ◌*◌}
use mathlib.Core.Path.{sym, ap, ◌∙◌}
use Rattle.meaning.specs.Segment.{fill}
use Rattle.laws.proofs.Counting.{fill-count, ones-replicate}
use Rattle.ewah_count.proofs.count.count_run.Goals as goal

pub returns : goal.returns
returns c =
    let v = c.args.value in
    let n = c.args.clean in
    ap (λ (k : ℕ). n * k) (sym (fill-count 32 v c.requires.0)) ∙ sym (ones-replicate 32 n (fill 32 v))
