-- `block_write::push_words` meets its contract: `words-fit` and `marker-fits` have the places of its stores, and
-- `pushed-many` the words.
-- Assumes nothing.
use Prim.Native.Nat.{◌+◌, ◌-◌}
use mathlib.Core.Path.{refl}
use lib.ListN.{length}
use Rattle.std.proofs.lemmas.Slice.{put_mid-paste}
use Rattle.block_write.proofs.Joining.{Joining, words-fit, pushed-many}
use native.Mathlib.Omega.{arith}
use Rattle.block_write.proofs.push_words.Goals as goal

pub slice_bounds-copy-end : goal.slice_bounds-copy-end
slice_bounds-copy-end c =
    let a = c.args in
    let j : Joining a.out.now a.words.now a.w c.grow_words-r.result =
    record { some = c.requires.in_bounds.0; few = c.requires.in_bounds.1; joined = c.grow_words-r.ensures; roomy = c.requires.room_for } in
    omega (arith, words-fit j)

pub returns : goal.returns
returns c =
    let a = c.args in
    let n = length a.words.now in
    let j : Joining a.out.now a.words.now a.w c.grow_words-r.result =
    record { some = c.requires.in_bounds.0; few = c.requires.in_bounds.1; joined = c.grow_words-r.ensures; roomy = c.requires.room_for } in
    let is = put_mid-paste a.w.used (a.w.used + n - a.w.used) a.out.now c.copy.new.out a.words.now n
    c.copy.ensures.after (omega arith) refl in
    rw is (pushed-many j c.word.result c.word.ensures)
