-- `threshold::say` writes the whole text at once: the lines hold just that, since nothing was left out of them.
-- Assumes nothing.
use Rattle.std.proofs.Common.{subst, ap, ◌∙◌, ◌++◌, rules}
use Rattle.std.specs.Io.KnownBytes.{Appends}
use Rattle.std.specs.Fmt.{WritesText}
use Rattle.std.proofs.Output.{if_some_weaken}
use Rattle.std.proofs.lemmas.Result.{on_ok_weaker}
use Rattle.std.proofs.lemmas.Fmt.{contents_after_writes}
use Rattle.threshold.proofs.say.Goals as goal

pub returns : goal.returns
returns g c =
    let old = g.W.Write.contents c.args.writer.now in
    let new = g.W.Write.contents c.write_all.new.self in
    let calls : WritesText _ c.new-lines.result (g.D.Display.output c.args.text) c.write.new.self = search rules in
    on_ok_weaker c.write_all.result
    (λ whole. if_some_weaken (g.D.Display.output c.args.text) _ (Appends old new)
    (λ bs w. subst (Appends old new) (c.as_bytes.ensures.value ∙ c.as_str.ensures.value ∙ contents_after_writes _ (λ s. s.bytes) (λ s xs t e. e) _ bs _ w ∙ ap (λ xs. xs ++ bs) c.new-lines.ensures) whole) calls)
    c.write_all.ensures.bytes
