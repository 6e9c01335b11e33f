-- `walk::survey::open` meets its contract. The invariant: the first i cursors stand on the first piece of their bodies.
-- Assumes nothing.
use mathlib.Core.Path.{◌∙◌, subst}
use native.Mathlib.Omega.{arith}
use lib.ListN.{length, length-set}
use Rattle.meaning.specs.declared.Format.{Format}
use Rattle.walk.specs.Queries.{Standing, place_body}
use Rattle.walk.proofs.Places.{none-empty, opened, standing-more}
use Rattle.walk.proofs.survey.open.Goals as goal

pub open-requires : goal.open-requires
open-requires c =
    let a = c.args in
    let r = c.requires in
    rw c.body.ensures.result_value (none-empty a.format a.index.now a.list.now c.loop-i.i r.format_value r.index_facts r.listed c.loop-i-test.true)

pub loop-i-preserved : goal.loop-i-preserved
loop-i-preserved c =
    let a = c.args in
    let r = c.requires in
    let l = c.loop-i in
    let t = c.loop-i-test.true in
    let some = none-empty a.format a.index.now a.list.now l.i r.format_value r.index_facts r.listed t in
    let here = opened a.format (place_body a.index.now a.list.now l.i) c.open.result some (rw c.body.ensures.result_value at c.open.ensures) in record {
      long = length-set l.cursors l.i c.open.result ∙ l.invariant.long;
      standing = standing-more a.format a.index.now a.list.now l.cursors l.i 0 c.open.result (omega (arith, t, l.invariant.long, r.cursors_len)) l.invariant.standing here;
    }

pub returns : goal.returns
returns c =
    let l = c.loop-i in
    let index = c.args.index.now in
    let list = c.args.list.now in
    (l.invariant.long, subst (λ (F : Format). Standing F index list l.cursors (length list) 0) c.requires.format_value (λ k h. l.invariant.standing k (omega arith)))
