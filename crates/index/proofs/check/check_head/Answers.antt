-- `index::check::check_head` meets its contract: each of its seven returns is a law of `Heads`. Assumes nothing.
use mathlib.Core.Path.{sym, ◌∙◌}
use Rattle.answers.specs.Told.{outcome_of}
use Rattle.index.proofs.Heads.{head-long, head-short, head-kind, head_rows, head-bitmaps, head-contents, head-fine}
use native.Mathlib.Omega.{arith}
use Rattle.index.proofs.check.check_head.Goals as goal

pub returns-then-words-gt-MOST_INDEX_WORDS : goal.returns-then-words-gt-MOST_INDEX_WORDS
unfolding outcome_of
returns-then-words-gt-MOST_INDEX_WORDS c = rw c.refusal.ensures (head-long c.args.index.now c.if-words-gt-MOST_INDEX_WORDS.true)

pub returns-then-words-lt-HEAD_WORDS : goal.returns-then-words-lt-HEAD_WORDS
unfolding outcome_of
returns-then-words-lt-HEAD_WORDS c =
    rw c.refusal-then-words-lt-HEAD_WORDS.ensures (head-short c.args.index.now c.if-words-gt-MOST_INDEX_WORDS.false c.if-words-lt-HEAD_WORDS.true)

pub returns-then-not-is_kind : goal.returns-then-not-is_kind
unfolding outcome_of
returns-then-not-is_kind c =
    rw c.refusal-then-not-is_kind.ensures (head-kind c.args.index.now c.if-words-gt-MOST_INDEX_WORDS.false c.if-words-lt-HEAD_WORDS.false (sym c.is_kind.ensures ∙ c.if-not-is_kind.true))

pub returns-then-index-gt-MOST_ROWS : goal.returns-then-index-gt-MOST_ROWS
unfolding outcome_of
returns-then-index-gt-MOST_ROWS c =
    rw c.refusal-then-index-gt-MOST_ROWS.ensures (head_rows c.args.index.now c.if-words-gt-MOST_INDEX_WORDS.false c.if-words-lt-HEAD_WORDS.false (sym c.is_kind.ensures ∙ c.if-not-is_kind.false) c.if-index-gt-MOST_ROWS.true)

pub returns-then-index-gt-MOST_BITMAPS : goal.returns-then-index-gt-MOST_BITMAPS
unfolding outcome_of
returns-then-index-gt-MOST_BITMAPS c =
    rw c.refusal-then-index-gt-MOST_BITMAPS.ensures (head-bitmaps c.args.index.now c.if-words-gt-MOST_INDEX_WORDS.false c.if-words-lt-HEAD_WORDS.false (sym c.is_kind.ensures ∙ c.if-not-is_kind.false) c.if-index-gt-MOST_ROWS.false c.if-index-gt-MOST_BITMAPS.true)

pub returns-then-words-entry_place : goal.returns-then-words-entry_place
unfolding outcome_of
returns-then-words-entry_place c =
    rw c.refusal-then-words-entry_place.ensures (head-contents c.args.index.now c.if-words-gt-MOST_INDEX_WORDS.false c.if-words-lt-HEAD_WORDS.false (sym c.is_kind.ensures ∙ c.if-not-is_kind.false) c.if-index-gt-MOST_ROWS.false c.if-index-gt-MOST_BITMAPS.false (omega (arith, c.entry_place.ensures.0, c.if-words-entry_place.true)))

pub returns : goal.returns
unfolding outcome_of
returns c =
    head-fine c.args.index.now c.if-words-gt-MOST_INDEX_WORDS.false c.if-words-lt-HEAD_WORDS.false (sym c.is_kind.ensures ∙ c.if-not-is_kind.false) c.if-index-gt-MOST_ROWS.false c.if-index-gt-MOST_BITMAPS.false (omega (arith, c.entry_place.ensures.0, c.if-words-entry_place.false))
