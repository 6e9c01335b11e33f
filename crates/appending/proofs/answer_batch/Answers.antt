-- `appending::answer_batch` meets its contract: a mismatch by `no-match`; else, by `is-match`, what `append_at` tells of the rows of the body in
-- use. Assumes nothing.
use native.Mathlib.Omega.{arith}
use Prim.Native.Nat.{ℕ}
use mathlib.Core.Path.{◌≡◌, sym, ap, ◌∙◌, subst}
use mathlib.Core.List.{List}
use Rattle.meaning.specs.Refusal.{Outcome}
use Rattle.meaning.specs.Format.{rows_of}
use Rattle.meaning.specs.declared.Format.TheVariants.{Ewah}
use Rattle.answers.specs.Told.{refused_by, Wrote}
use Rattle.answers.proofs.Tells.{wrote-refused}
use Rattle.batches.specs.declared.AppendState.{AppendState}
use Rattle.batches.specs.Append.{in_use}
use Rattle.batches.proofs.Ordered.{no-match, is-match}
use Rattle.std.specs.Prelude.{Option, None, Some}
use Rattle.resume.specs.declared.Place.{Place}
use Rattle.appending.specs.Batched.{batch_of, FoundIs}
use Rattle.appending.proofs.answer_batch.Goals as goal

-- what was found, by its case
found-is : (s : AppendState) (out : List ℕ) (f z : Option Place) → FoundIs s out f → f ≡ z → FoundIs s out z
found-is s out f z h e = subst (λ (r : Option Place). FoundIs s out r) e h

pub returns-in-None : goal.returns-in-None
returns-in-None c =
    let a = c.args in
    wrote-refused a.out.now _ _
    (ap refused_by c.mismatched.ensures
    ∙ sym (no-match a.state a.out.now (batch_of a.more a.plain.now) (found-is a.state a.out.now _ _ c.find.ensures c.in-None.is)))

pub returns-in-Some : goal.returns-in-Some
returns-in-Some c =
    let a = c.args in
    let placed = found-is a.state a.out.now _ _ c.find.ensures c.in-Some.is in
    subst (λ (o : Outcome (List ℕ)). Wrote o c.append_at.result a.out.now c.append_at.new.out)
    (sym (is-match a.state a.out.now (batch_of a.more a.plain.now) placed.0))
    (c.append_at.ensures (rows_of Ewah (in_use a.state a.out.now)) placed.1)
