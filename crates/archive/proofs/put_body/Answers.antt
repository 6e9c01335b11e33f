-- `archive::put_body` meets its contract: what is read of the index is a sound body with the rows of bitmap k.
-- Assumes nothing.
use mathlib.Core.Path.{ap}
use lib.ListN.{length}
use Rattle.archive.proofs.Renewed.{read-rows, read-rewritten}
use native.Mathlib.Omega.{arith}
use Rattle.archive.proofs.put_body.Goals as goal

pub rewrite-requires-clause-body_in_bounds : goal.rewrite-requires-clause-body_in_bounds
rewrite-requires-clause-body_in_bounds g c =
    let a = c.args in
    let its-rows = read-rows a.index.now c.requires.index_facts a.k c.requires.k_bound _ _ _
    c.format.ensures c.rows.ensures c.body.ensures.result_value a.to in
    λ h. omega (arith, ap length its-rows, c.requires.k_in_bounds h)

pub returns-clause-rewritten : goal.returns-clause-rewritten
returns-clause-rewritten g c =
    let a = c.args in
    read-rewritten a.index.now c.requires.index_facts a.k c.requires.k_bound _ _ _
    c.format.ensures c.rows.ensures c.body.ensures.result_value a.to _ _ _ _ c.rewrite.ensures.rewritten
