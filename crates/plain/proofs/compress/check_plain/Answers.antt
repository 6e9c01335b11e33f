-- `plain::compress::check_plain` meets its contract: each of its five returns is a law of `PlainWords`, in the order of the faults. Assumes nothing.
use mathlib.Core.Path.{ap, ◌∙◌}
use native.Mathlib.Omega.{arith}
use Rattle.meaning.specs.Segment.{segment_count}
use Rattle.answers.specs.Told.{refused_by, outcome_of}
use Rattle.plain.proofs.PlainWords.{plain_over, plain-count, plain-none-left, plain-pad, plain-fine}
use Rattle.plain.proofs.compress.check_plain.Goals as goal

pub returns-then-rows-gt-MOST_ROWS : goal.returns-then-rows-gt-MOST_ROWS
unfolding outcome_of
returns-then-rows-gt-MOST_ROWS c =
    let a = c.args in
    ap refused_by c.too_many_rows.ensures ∙ plain_over a.rows a.plain.now c.if-rows-gt-MOST_ROWS.true

pub returns-then-plain-words : goal.returns-then-plain-words
unfolding outcome_of
returns-then-plain-words c =
    let a = c.args in
    ap refused_by c.bad_argument.ensures ∙ plain-count a.rows a.plain.now c.if-rows-gt-MOST_ROWS.false _ c.segment_count-words.ensures c.if-plain-words.true

pub returns-then-words-eq0 : goal.returns-then-words-eq0
unfolding outcome_of
returns-then-words-eq0 c =
    let a = c.args in
    plain-none-left a.rows a.plain.now c.if-rows-gt-MOST_ROWS.false _ c.segment_count-words.ensures c.if-plain-words.false c.if-words-eq0.true

pub sets_pad-requires : goal.sets_pad-requires
unfolding segment_count
sets_pad-requires c = omega (arith, c.segment_count-words.ensures)

pub returns-then-sets_pad : goal.returns-then-sets_pad
unfolding outcome_of
returns-then-sets_pad c =
    let a = c.args in
    ap refused_by c.pad_bit.ensures
    ∙ plain-pad a.rows a.plain.now c.if-rows-gt-MOST_ROWS.false _ c.segment_count-words.ensures c.if-plain-words.false c.if-words-eq0.false c.sets_pad.result c.sets_pad.ensures c.if-sets_pad.true

pub returns : goal.returns
unfolding outcome_of
returns c =
    let a = c.args in
    plain-fine a.rows a.plain.now c.if-rows-gt-MOST_ROWS.false _ c.segment_count-words.ensures c.if-plain-words.false c.if-words-eq0.false c.sets_pad.result c.sets_pad.ensures c.if-sets_pad.false
