-- `starred::cases::sound` meets its contract: by `outcome-one` there is one answer that tells this. Assumes nothing.
use Rattle.std.proofs.Common.{rules, ◌∙◌}
use Rattle.std.specs.Prelude.{Ok}
use Rattle.answers.specs.Told.{outcome_of}
use Rattle.answers.proofs.Settled.{outcome-one}
use Rattle.starred.proofs.cases.sound.Goals as goal

pub expect-requires : goal.expect-requires
unfolding outcome_of
expect-requires c = c.eq.ensures ∙ rw (outcome-one c.check.result (Ok tt) (c.check.ensures ∙ c.requires)) (search rules)
