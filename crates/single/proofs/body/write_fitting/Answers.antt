-- `single::body::write_fitting` meets its contract: what was written, by `write-words`. Assumes nothing.
use mathlib.Core.Path.{refl}
use native.Mathlib.Omega.{arith}
use Rattle.meaning.specs.Format.{rows_of}
use Rattle.answers.proofs.Tells.{write-words}
use Rattle.single.proofs.body.write_fitting.Goals as goal

pub returns : goal.returns
returns c =
    let a = c.args in
    let x = c.store in
    write-words a.to a.rows (rows_of a.from a.body.now) a.out.now x.result x.ensures.words_are
    x.new.out (omega (arith, x.ensures.words_are, c.requires.body_in_bounds)) (x.ensures.stored refl)
