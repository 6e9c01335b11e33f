-- `adder::chain::add_rows` meets its contract.
-- Assumes nothing.
use mathlib.Core.Path.{◌≡◌, ap, ◌∙◌}
use mathlib.Core.Bool.{cond, not}
use lib.Dec.{eqb}
use Rattle.meaning.specs.Rows.{bit}
use Rattle.column_meaning.specs.Column.{pair_value}
use Rattle.meaning.specs.declared.Pairing.TheVariants.{Sum, Difference}
use Rattle.words.proofs.BitLaws.{bit-set}
use Rattle.adder.proofs.Adding.{row-digit, turned-digit, carrying-none, carrying-more, digits-paired, last-carries}
use Rattle.adder.proofs.Filling.{filling-none, filling-more, filling-all}
use native.Mathlib.Omega.{arith}
use Rattle.adder.proofs.chain.add_rows.Goals as goal

pub loop-i-init : goal.loop-i-init
loop-i-init g c =
    let a = c.args in
    let v = c.filled-carry.result in (
      carrying-none (bit (not (eqb g.row.FLIP 0))) _ _ v (λ j k. bit-set v j ∙ ap bit (c.filled-carry.ensures j k)),
      filling-none (pair_value (cond (not (eqb g.row.FLIP 0)) Difference Sum)) a.n c.exist-exist.ensures,
    )

pub loop-i-preserved : goal.loop-i-preserved
loop-i-preserved g c =
    let h = c.loop-i in
    let a = c.args in
    let first = row-digit c.part.ensures in
    let second = turned-digit c.part-in-loop-i.ensures c.flipped.ensures in (
      carrying-more h.invariant.0 first second c.add-s.ensures,
      filling-more
          (λ w j l k.
          digits-paired a.x.now a.y.now (not (eqb g.row.FLIP 0)) h.invariant.0 first second c.add-s.ensures a.n w j (omega arith) l k)
          c.put_both.ensures h.invariant.1,
    )

pub returns : goal.returns
returns g c =
    let h = c.loop-i in
    let a = c.args in
    let i-is : h.i ≡ a.n = omega arith in (
      filling-all c.exist-exist.ensures (rw i-is at h.invariant.1),
      last-carries a.x.now a.y.now (not (eqb g.row.FLIP 0)) (rw i-is at h.invariant.0),
    )
