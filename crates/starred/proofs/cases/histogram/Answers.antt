-- `starred::cases::histogram` meets its contract: by `outcome-one` there is one answer that tells this. Assumes nothing.
use Rattle.std.proofs.Common.{rules, ◌≡◌, ◌∙◌}
use Rattle.std.specs.Prelude.{Ok}
use Rattle.answers.specs.Told.{outcome_of}
use Rattle.answers.proofs.Settled.{outcome-one}
use Rattle.starred.proofs.Expected.{same_self}
use Rattle.starred.proofs.cases.histogram.Goals as goal

pub unwrap-counts-requires : goal.unwrap-counts-requires
unfolding outcome_of
unwrap-counts-requires c = rw (outcome-one c.histogram.result (Ok c.args.entries.now) (c.histogram.ensures ∙ c.requires)) (search rules)

pub expect-requires : goal.expect-requires
unfolding outcome_of
expect-requires c =
    let e : c.histogram.result ≡ Ok c.args.entries.now = outcome-one c.histogram.result (Ok c.args.entries.now) (c.histogram.ensures ∙ c.requires) in
    let u : c.histogram.result ≡ Ok c.unwrap-counts.result = c.unwrap-counts.ensures in
    let q : c.unwrap-counts.result ≡ c.args.entries.now = cc in
    c.eq.ensures ∙ rw (c.as_slice.ensures ∙ q) (same_self c.args.entries.now)
