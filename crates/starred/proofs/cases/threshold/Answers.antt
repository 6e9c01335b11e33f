-- `starred::cases::threshold` meets its contract: by `answered-told`, both expectations hold of `zvonurel::threshold`. Assumes nothing.
use Rattle.std.proofs.Common.{rules, ◌∙◌}
use Rattle.starred.proofs.Expected.{answered-told, same_self}
use Rattle.starred.proofs.cases.threshold.Goals as goal

pub expect-requires : goal.expect-requires
expect-requires c =
    let told = answered-told _ _ _ c.requires.writes _ _ _ c.requires.t_value _ c.threshold-told.result c.threshold-told.ensures.reported in
    c.eq.ensures ∙ rw told.0 (search rules)

pub expect-requires-2 : goal.expect-requires-2
expect-requires-2 c =
    let told = answered-told _ _ _ c.requires.writes _ _ _ c.requires.t_value _ c.threshold-told.result c.threshold-told.ensures.reported in
    c.eq-2.ensures ∙ rw (c.as_slice.ensures ∙ told.1) (same_self c.args.after.now)
