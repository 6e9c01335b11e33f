-- `threshold::start::ask` meets its contract: by `told_of` it asks the program's question; `ask-refused` and `ask-answered` are its two ways.
-- Assumes nothing.
use mathlib.Core.Path.{sym}
use lib.Seq.{length-take-le}
use Rattle.std.proofs.lemmas.Result.{err_from_is_err_and}
use Rattle.threshold.proofs.Starting.{told_of, named-length, ask-refused, within, has-head, may-count, ask-answered}
use Rattle.threshold.proofs.start.ask.Goals as goal

pub slice_bounds-threshold-end : goal.slice_bounds-threshold-end
slice_bounds-threshold-end c = named-length c.named-n.result c.names-all.result c.names-all.ensures _ c.named-n.ensures

pub returns-in_err-told : goal.returns-in_err-told
returns-in_err-told c =
    let t = told_of c.args.index.now c.args.t c.named-n.result c.names-all.result c.names-all.ensures c.named-n.ensures c.args.answer.now c.threshold.new.out c.requires c.threshold.result c.threshold.ensures.reported in
    let p = err_from_is_err_and c.from_residual.result c.from_residual.ensures.1 in
    rw (p.1, p.2) (ask-refused t _ c.in_err-told.was)

pub format-format-requires : goal.format-format-requires
format-format-requires c =
    let t = told_of c.args.index.now c.args.t c.named-n.result c.names-all.result c.names-all.ensures c.named-n.ensures c.args.answer.now c.threshold.new.out c.requires c.threshold.result c.threshold.ensures.reported in
    has-head t c.in_ok-told.was

pub rows-rows-requires : goal.rows-rows-requires
rows-rows-requires c =
    let t = told_of c.args.index.now c.args.t c.named-n.result c.names-all.result c.names-all.ensures c.named-n.ensures c.args.answer.now c.threshold.new.out c.requires c.threshold.result c.threshold.ensures.reported in
    has-head t c.in_ok-told.was

pub bitmaps-requires : goal.bitmaps-requires
bitmaps-requires c =
    let t = told_of c.args.index.now c.args.t c.named-n.result c.names-all.result c.names-all.ensures c.named-n.ensures c.args.answer.now c.threshold.new.out c.requires c.threshold.result c.threshold.ensures.reported in
    has-head t c.in_ok-told.was

pub slice_bounds-count-end : goal.slice_bounds-count-end
slice_bounds-count-end c =
    let t = told_of c.args.index.now c.args.t c.named-n.result c.names-all.result c.names-all.ensures c.named-n.ensures c.args.answer.now c.threshold.new.out c.requires c.threshold.result c.threshold.ensures.reported in
    within t c.in_ok-told.was

pub slice_bounds-count-end-2 : goal.slice_bounds-count-end-2
slice_bounds-count-end-2 c =
    let t = told_of c.args.index.now c.args.t c.named-n.result c.names-all.result c.names-all.ensures c.named-n.ensures c.args.answer.now c.threshold.new.out c.requires c.threshold.result c.threshold.ensures.reported in
    sym (length-take-le _ c.threshold.new.out (within t c.in_ok-told.was))

pub count-requires : goal.count-requires
count-requires c =
    let t = told_of c.args.index.now c.args.t c.named-n.result c.names-all.result c.names-all.ensures c.named-n.ensures c.args.answer.now c.threshold.new.out c.requires c.threshold.result c.threshold.ensures.reported in
    may-count t c.in_ok-told.was c.format-format.ensures c.rows-rows.ensures

pub returns : goal.returns
returns c =
    let t = told_of c.args.index.now c.args.t c.named-n.result c.names-all.result c.names-all.ensures c.named-n.ensures c.args.answer.now c.threshold.new.out c.requires c.threshold.result c.threshold.ensures.reported in
    ask-answered t c.in_ok-told.was c.format-format.ensures c.rows-rows.ensures _ _ c.bitmaps.ensures c.count.ensures
