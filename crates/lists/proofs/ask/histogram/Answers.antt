-- `lists::ask::histogram` meets its contract: 8 for a bad list, and else the numbers counted. Assumes nothing.
use mathlib.Core.Path.{sym, ◌∙◌}
use Rattle.meaning.specs.Answer.{ask_histogram}
use Rattle.fit.proofs.Listing.{good-walkable}
use Rattle.lists.proofs.Choosing.{counted-refused, counted-sound}
use Rattle.lists.proofs.ask.histogram.Goals as goal

pub list_is_bad-requires : goal.list_is_bad-requires
list_is_bad-requires c = c.requires.head.head

pub returns-then-list_is_bad : goal.returns-then-list_is_bad
unfolding ask_histogram
returns-then-list_is_bad c =
    let a = c.args in
    counted-refused a.index.now a.list.now _ (sym c.list_is_bad.ensures ∙ c.if-list_is_bad.true) c.bad_argument.result c.bad_argument.ensures

pub histogram-requires : goal.histogram-requires
histogram-requires c =
    good-walkable c.args.index.now c.args.list.now c.requires (sym c.list_is_bad.ensures ∙ c.if-list_is_bad.false)

pub returns : goal.returns
unfolding ask_histogram
returns c =
    let a = c.args in
    counted-sound a.index.now a.list.now _ (sym c.list_is_bad.ensures ∙ c.if-list_is_bad.false) c.histogram.result c.histogram.ensures
