-- `extend::write` meets its contract: the marker is stored, and behind it the batch is put. Assumes nothing.
use Prim.Native.Nat.{ℕ, ◌+◌}
use mathlib.Core.Bool.{Bool, true}
use mathlib.Core.Path.{refl}
use native.Mathlib.Omega.{arith}
use Rattle.meaning.specs.declared.Format.TheVariants.{Ewah}
use Rattle.answers.proofs.Tells.{write-words}
use Rattle.resume.specs.Resume.{PlaceOf}
use Rattle.extend.specs.Longer.{longer, Fits, BatchNext}
use Rattle.extend.proofs.Reopening.{stored_next}
use Rattle.extend.proofs.write.Lts
use Rattle.extend.proofs.write.Reads
use Rattle.extend.proofs.write.Tie
use Rattle.extend.proofs.write.Goals as goal

-- places in the code that lemmas below speak of
abbrev After-reopen : Type 0
After-reopen = Lts.After-reopen Tie.the-claims Reads.Pre Reads.Post Tie.handed_clauses

-- the batch comes next
module _ (c : After-reopen) where
  coming : let a = c.args in (q : ℕ → Bool) → PlaceOf a.before q a.out.now a.p
      → Fits a.before q a.rows a.plain.now a.out.now
      → BatchNext a.before (longer a.before q a.plain.now) a.out.now true
      c.restore.new.out c.reopen.result a.plain.now a.rows
  coming q at fits =
      let a = c.args in
      stored_next at a.plain.now a.rows c.requires.plain_rows.1 c.reopen.result c.reopen.ensures fits
      c.restore.ensures

pub store-requires-clause-by_index : goal.store-requires-clause-by_index
store-requires-clause-by_index c =
    let a = c.args in
    let q = c.requires.by_index.0 in
    (a.before, longer a.before q a.plain.now, a.out.now, coming c.before q c.requires.by_index.1 c.requires.by_index.2)

pub returns : goal.returns
returns c q at fits =
    let x = c.store in
    let a = c.args in
    let rows = longer a.before q a.plain.now in
    let done = x.ensures a.before rows a.out.now (coming c.before.before.before.before q at fits) in
    write-words Ewah (a.before + a.rows) rows a.out.now x.result done.words_are x.new.out
    (omega (arith, done.words_are, fits)) (done.stored refl)
