-- `starred::cases::writes` meets its contract: what the call told and left are as its `requires` says. Assumes nothing.
use Rattle.std.proofs.Common.{rules, ◌∙◌, refl, eq-eqb}
use Rattle.starred.proofs.Expected.{same_self}
use Rattle.starred.proofs.cases.writes.Goals as goal

pub expect-requires : goal.expect-requires
expect-requires g c =
    let told = c.requires.told c.call-told.result c.call-told.new.arg2 (search rules) in
    c.eq.ensures ∙ rw told.0 (eq-eqb c.args.words c.args.words refl)

pub expect-requires-2 : goal.expect-requires-2
expect-requires-2 g c =
    let told = c.requires.told c.call-told.result c.call-told.new.arg2 (search rules) in
    c.eq-2.ensures ∙ rw (c.as_slice.ensures ∙ told.1) (same_self c.args.after.now)
