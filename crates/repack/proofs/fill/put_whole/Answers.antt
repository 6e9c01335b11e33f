-- `repack::fill::put_whole` meets its contract: by `put_whole`. Assumes nothing.
use mathlib.Core.Path.{refl}
use Rattle.repack.proofs.RowsPut.{put_whole}
use Rattle.repack.proofs.fill.put_whole.Goals as goal

pub returns : goal.returns
returns c =
    let a = c.args in
    let stored = c.store.ensures in
    put_whole a.s a.value a.words a.out.now _ c.requires.1 c.requires.2 stored _ c.requires.0 refl refl refl
