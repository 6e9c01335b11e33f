-- `column::strays` meets its contract. The invariant: the slices from place i on give the list's verdict.
-- Assumes nothing.
use Prim.Native.Nat.{◌+◌, ◌-◌, ◌<◌}
use mathlib.Core.Path.{◌≡◌, sym, ap, ◌∙◌}
use native.Mathlib.Omega.{arith}
use lib.ListN.{length, get_or}
use Rattle.std.specs.Prelude.{Some, None}
use Rattle.meaning.specs.Refusal.{refused}
use Rattle.answers.specs.Told.{outcome_of, refused_by}
use Rattle.column.proofs.Columns.{found_at, slice_at, slices-length}
use Rattle.column.proofs.Columns.{stray-none, stray-row, strays-first, strays-place, strays-end}
use Rattle.column.proofs.strays.Goals as goal

pub loop-k-init : goal.loop-k-init
loop-k-init c = strays-first c.args.index.now c.args.list.now (omega (arith, c.requires.least_column_in_bounds.0))

pub returns-in-Some : goal.returns-in-Some
unfolding outcome_of
returns-in-Some c =
    let index = c.args.index.now in
    let list = c.args.list.now in
    let i = c.loop-k.k-index in
    let inside : i < length list - 1 = omega (arith, c.loop-k-test.true, slices-length list) in
    let found = found_at _ _ _ _ _ _ _ _ (Some c.in-Some.row) c.format-format.ensures c.body.ensures.result_value
    c.body-exists.ensures.result_value c.rows-rows.ensures c.in-Some.ensures in
    let told : refused_by {A = Unit {0}} c.stray.result ≡ refused 11 (get_or list (i + 1) 0) c.in-Some.row =
    rw (slice_at list i inside, c.from.ensures) at (ap (refused_by {A = Unit {0}}) c.stray.ensures) in
    told
    ∙ sym (c.loop-k.invariant ∙ strays-place index _ list (i + 1) (omega arith)
    ∙ stray-row index (get_or list 0 0) (get_or list (i + 1) 0) _ _ (rw (slice_at list i inside) at found))

pub loop-k-preserved : goal.loop-k-preserved
loop-k-preserved c =
    let index = c.args.index.now in
    let list = c.args.list.now in
    let i = c.loop-k.k-index in
    let inside : i < length list - 1 = omega (arith, c.loop-k-test.true, slices-length list) in
    let none = found_at _ _ _ _ _ _ _ _ None c.format-format.ensures c.body.ensures.result_value
    c.body-exists.ensures.result_value c.rows-rows.ensures c.in_default.ensures in
    c.loop-k.invariant ∙ strays-place index _ list (i + 1) (omega arith)
    ∙ stray-none index (get_or list 0 0) (get_or list (i + 1) 0) _ (rw (slice_at list i inside) at none)

pub returns : goal.returns
unfolding outcome_of
returns c =
    let list = c.args.list.now in
    sym (c.loop-k.invariant ∙ strays-end c.args.index.now _ list (c.loop-k.k-index + 1) (omega (arith, c.loop-k-test.false, slices-length list)))
