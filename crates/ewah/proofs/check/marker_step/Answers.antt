-- `ewah::check::marker_step` meets its contract: each return is a law of `Steps`, a fault at the marker or its last dirty word, or the step over them. Assumes nothing.
use Rattle.ewah.proofs.Steps.{step-5, step-6, step-dirty, step-next}
use Rattle.ewah.proofs.check.marker_step.Goals as goal

pub returns-then-body-at : goal.returns-then-body-at
returns-then-body-at c = search step-5

pub returns-then-left-clean : goal.returns-then-left-clean
returns-then-left-clean c = search step-6

pub returns-then-dirty_over_pad : goal.returns-then-dirty_over_pad
returns-then-dirty_over_pad c =
    let a = c.args in
    let m = c.read-m.ensures in
    step-dirty a.body.now a.rows a.from.at a.from.left _ _ c.requires.at_in_bounds m.clean_is m.dirty-is
    c.if-body-at.false c.if-left-clean.false c.dirty_over_pad.result c.dirty_over_pad.ensures c.if-dirty_over_pad.true

pub returns : goal.returns
returns c =
    let a = c.args in
    let m = c.read-m.ensures in
    step-next a.body.now a.rows a.from.at a.from.left _ _ c.requires.at_in_bounds m.clean_is m.dirty-is
    c.if-body-at.false c.if-left-clean.false c.dirty_over_pad.result c.dirty_over_pad.ensures c.if-dirty_over_pad.false
