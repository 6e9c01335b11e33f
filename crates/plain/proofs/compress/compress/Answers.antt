-- `plain::compress::compress` meets its contract: in each format its own writing. Assumes nothing.
use mathlib.Core.Path.{sym, ap, ◌∙◌}
use lib.ListN.{length}
use Rattle.plain.proofs.PlainWords.{canonical-plain}
use Rattle.plain.proofs.compress.compress.Goals as goal

pub write-requires : goal.write-requires
write-requires c =
    let e = canonical-plain c.args.rows c.args.plain.now c.requires.plain_rows in record {
      plain_rows = c.requires.plain_rows;
      plain_in_bounds = rw (← e) (rw c.in-Ewah.is at c.requires.plain_in_bounds);
    }

pub returns-in-Ewah : goal.returns-in-Ewah
returns-in-Ewah c =
    let e = canonical-plain c.args.rows c.args.plain.now c.requires.plain_rows in
    rw c.in-Ewah.is (c.write.ensures.value ∙ ap length (sym e), rw e c.write.ensures.out_after)
