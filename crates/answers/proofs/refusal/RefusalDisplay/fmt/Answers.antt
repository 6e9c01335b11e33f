-- What `answers::refusal::Refusal` prints is `refusal_text`.
-- Assumes nothing.
use mathlib.Core.Path.{refl}
use Rattle.std.proofs.Output.{has_written_of_eq}
use Rattle.answers.specs.Printed.{refusal_text}
use Rattle.answers.proofs.refusal.RefusalDisplay.fmt.Goals as goal

pub returns-clause-writes : goal.returns-clause-writes
unfolding refusal_text
returns-clause-writes g c p q = has_written_of_eq _ _ _ _ _ (rw (← c.number-number.ensures) refl) (c.write.ensures.writes p q)
