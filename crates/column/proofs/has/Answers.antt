-- `column::has` meets its contract: each body of the index is sound in its format.
-- Assumes nothing.
use mathlib.Core.Path.{ap₂, ◌∙◌}
use mathlib.Core.List.{List}
use Prim.Native.Nat.{ℕ}
use Rattle.meaning.specs.Index.{row_count, rows_at}
use Rattle.meaning.specs.Format.{rows_of}
use Rattle.meaning.specs.declared.Format.{Format}
use Rattle.column.proofs.has.Goals as goal

pub is_set-requires : goal.is_set-requires
is_set-requires c =
    let a = c.args in
    let p = c.requires.format_value in
    rw (c.body.ensures.result_value, p.0) (row_count a.index.now, c.requires.index_facts.bodies a.k p.1, p.2)

pub returns : goal.returns
unfolding rows_at
returns c =
    c.is_set.ensures
    ∙ ap₂ (λ (F : Format) (b : List ℕ). rows_of F b c.args.row) c.requires.format_value.0 c.body.ensures.result_value
