-- `fit::surely_fits` meets its contract: any body of the rows fits, or twice the named words do. Assumes nothing.
use Prim.Native.Nat.{◌*◌}
use native.Mathlib.Omega.{arith}
use borrow.Author.Tests.{leb-true}
use Rattle.fit.proofs.Fitting.{body-most, twice_most}
use Rattle.fit.proofs.surely_fits.Goals as goal

pub returns-then-most_words-room : goal.returns-then-most_words-room
returns-then-most_words-room c =
    λ e table op.
    omega (
      arith,
      body-most c.args.index.now c.args.list.now op table c.format.result c.rows.result c.most_words.result
          c.format.ensures c.rows.ensures c.most_words.ensures,
      leb-true c.most_words.result c.args.room e,
    )

pub returns-else-most_words-room : goal.returns-else-most_words-room
returns-else-most_words-room c =
    λ e table op.
    omega (arith, twice_most c.args.index.now c.args.list.now op table c.requires, c.named_words.ensures.0, leb-true (2 * c.named_words.result) c.args.room e)
