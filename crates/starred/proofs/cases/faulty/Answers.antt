-- `starred::cases::faulty` meets its contract: by `outcome-one` there is one refusal that tells this. Assumes nothing.
use Rattle.std.proofs.Common.{rules, ◌∙◌}
use Rattle.std.specs.Prelude.{Err}
use Rattle.answers.specs.Told.{outcome_of}
use Rattle.answers.proofs.Settled.{outcome-one}
use Rattle.starred.proofs.cases.faulty.Goals as goal

pub expect-requires : goal.expect-requires
unfolding outcome_of
expect-requires c =
    c.eq.ensures ∙ rw (outcome-one c.check_body.result (Err _) (c.check_body.ensures ∙ c.requires)) (search rules)
