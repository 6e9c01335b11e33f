-- `starred::cases::refuses` meets its contract: by `refused-told` the refusal is told, and by `refused-left` the buffer is as it was. Assumes nothing.
use Rattle.std.proofs.Common.{rules, ◌∙◌}
use Rattle.starred.proofs.Expected.{refused-told, refused-left, same_self}
use Rattle.starred.proofs.cases.refuses.Goals as goal

pub expect-requires : goal.expect-requires
expect-requires c =
    c.eq.ensures ∙ rw (refused-told _ _ _ _ _ (record { fault = c.args.fault; bitmap = 0; word = c.args.word }) c.requires.out_value_2 c.threshold-told.result c.threshold-told.ensures.reported) (search rules)

pub expect-requires-2 : goal.expect-requires-2
expect-requires-2 c =
    c.eq-2.ensures ∙ rw (refused-left _ _ _ _ _ (record { fault = c.args.fault; bitmap = 0; word = c.args.word }) c.requires.out_value_2 c.threshold-told.result c.threshold-told.ensures.reported ∙ c.requires.out_value) (same_self c.args.before.now)
