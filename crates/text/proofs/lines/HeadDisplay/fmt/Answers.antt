-- What `text::lines::Head` prints is `head_text`, by `head-is`.
-- Assumes nothing.
use Rattle.std.proofs.Common.{rules}
use Rattle.std.proofs.Output.{has_written_of_eq}
use Rattle.text.proofs.Printed.{head-is}
use Rattle.text.proofs.lines.HeadDisplay.fmt.Goals as goal

pub returns-clause-writes : goal.returns-clause-writes
returns-clause-writes g c p q =
    let s = c.args.self.now in
    has_written_of_eq _ _ _ _ _ (head-is s.rows s.named s.t s.set (search rules) (search rules) (search rules) (search rules)) (c.write.ensures.writes p q)
