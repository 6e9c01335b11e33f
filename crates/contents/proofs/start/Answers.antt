-- `contents::start` meets its contract: the entry's first word, which by `entry-within` lies in the index. Assumes nothing.
use mathlib.Core.Path.{ap, ◌∙◌}
use Prim.Native.Nat.{ℕ}
use lib.ListN.{get_or}
use Rattle.meaning.specs.Index.{start_of}
use Rattle.contents.proofs.Places.{entry-within}
use native.Mathlib.Omega.{arith}
use Rattle.contents.proofs.start.Goals as goal

pub entry_place-place-requires : goal.entry_place-place-requires
entry_place-place-requires c = omega (arith, c.requires.head_facts.few-bitmaps, c.requires.k_bound)

pub bounds-index-place : goal.bounds-index-place
bounds-index-place c =
    omega (arith, entry-within c.args.index.now c.args.k c.requires.head_facts c.requires.k_bound, c.entry_place-place.ensures.0)

pub returns : goal.returns
unfolding start_of
returns c =
    let e = c.entry_place-place.ensures.0 in (c.wide.ensures.0 ∙ ap (λ (n : ℕ). get_or c.args.index.now n 0) e, c.wide.ensures.1)
