-- `single::body::rewrite` meets its contract: what surely fits is written, and else it is measured; where it does not fit by `write-none`.
-- Assumes nothing.
use mathlib.Core.List.{[]}
use native.Mathlib.Omega.{arith}
use Rattle.meaning.specs.Format.{rows_of}
use Rattle.answers.proofs.Tells.{write-none}
use Rattle.single.proofs.Asks.{not-stored}
use Rattle.single.proofs.body.rewrite.Goals as goal

pub write_fitting-requires : goal.write_fitting-requires
write_fitting-requires c =
    let a = c.args in record {
      rows_le_most_rows = c.requires.rows_le_most_rows;
      sound_facts = c.requires.sound_facts;
      body_in_bounds = omega (arith, c.most_words.ensures (rows_of a.from a.body.now), c.if-most_words-out.true);
    }

pub rewrite-need-requires : goal.rewrite-need-requires
rewrite-need-requires c =
    let a = c.args in record {
      rows_le_most_rows = (c.requires.rows_le_most_rows, c.requires.sound_facts);
      body_in_bounds = not-stored a.to a.rows (rows_of a.from a.body.now) [];
    }

pub returns-then-out-need : goal.returns-then-out-need
returns-then-out-need c =
    let a = c.args in
    write-none a.to a.rows (rows_of a.from a.body.now) a.out.now c.rewrite-need.result c.rewrite-need.ensures.rewritten.words_are
    c.no_room.result c.no_room.ensures c.if-out-need.true

pub write_fitting-requires-2 : goal.write_fitting-requires-2
write_fitting-requires-2 c =
    record {
      rows_le_most_rows = c.requires.rows_le_most_rows;
      sound_facts = c.requires.sound_facts;
      body_in_bounds = omega (arith, c.rewrite-need.ensures.rewritten.words_are, c.if-out-need.false);
    }

pub returns : goal.returns
returns c = c.write_fitting-2.ensures
