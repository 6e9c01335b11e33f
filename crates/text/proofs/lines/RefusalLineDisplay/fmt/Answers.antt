-- What `text::lines::RefusalLine` prints is `refused_text`, by `refused-is`.
-- Assumes nothing.
use Rattle.std.proofs.Common.{rules}
use Rattle.std.proofs.Output.{has_written_of_eq}
use Rattle.text.proofs.Printed.{refused-is}
use Rattle.text.proofs.lines.RefusalLineDisplay.fmt.Goals as goal

pub returns-clause-writes : goal.returns-clause-writes
returns-clause-writes g c p q =
    let s = c.args.self.now.0 in
    has_written_of_eq _ _ _ _ _ (rw (← c.number-number.ensures) (refused-is c.number-number.result s.bitmap s.word (search rules) (search rules) (search rules))) (c.write.ensures.writes p q)
