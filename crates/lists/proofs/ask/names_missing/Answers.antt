-- `lists::ask::names_missing` meets its contract: a number names no bitmap where it is not below their number. Assumes nothing.
use Prim.Native.Nat.{ℕ}
use mathlib.Core.Path.{ap, ◌∙◌}
use lib.Dec.{leb}
use Rattle.std.specs.List.{list_any}
use Rattle.lists.proofs.Large.{any-names-none}
use Rattle.lists.proofs.ask.names_missing.Goals as goal

pub returns : goal.returns
returns c =
    let a = c.args in
    c.any_from.ensures
    ∙ ap (λ (n : ℕ). list_any (λ k. leb n k) a.list.now) c.bitmaps.ensures
    ∙ any-names-none a.index.now a.list.now
