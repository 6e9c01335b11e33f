-- `threshold::start::begin` meets its contract: too many bytes, no whole words, or the question of the words read are the cases of `output_of`.
-- Assumes nothing.
use Prim.Native.Nat.{ℕ, ◌/◌}
use mathlib.Core.Path.{sym, ap, subst, ◌∙◌}
use mathlib.Core.List.{List}
use lib.ListN.{length, get_or, drop, length-take, length-append}
use Rattle.threshold.specs.Output.{asked}
use Rattle.threshold.specs.Begins.{Begins}
use Rattle.threshold.proofs.Starting.{output-long, output-ragged, output-asked, whole_words, read-words}
use native.Mathlib.Omega.{arith}
use Rattle.threshold.proofs.start.begin.Goals as goal

pub returns-then-n-gt-MOST_BYTES : goal.returns-then-n-gt-MOST_BYTES
returns-then-n-gt-MOST_BYTES c = rw c.refusal.ensures (output-long c.args.input.now c.if-n-gt-MOST_BYTES.true)

pub returns-then-ragged : goal.returns-then-ragged
returns-then-ragged c =
    rw c.refusal-then-ragged.ensures (output-ragged c.args.input.now c.if-n-gt-MOST_BYTES.false (sym c.ragged.ensures ∙ c.if-ragged.true))

pub words-requires : goal.words-requires
words-requires c =
    let n = length c.args.input.now in
    let whole = sym c.ragged.ensures ∙ c.if-ragged.false in
    omega (arith, length-take (n / 4) c.word_room-words.result, c.word_room-words.ensures, c.if-n-gt-MOST_BYTES.false, (whole_words n whole).1)

pub slice_bounds-words-end-3 : goal.slice_bounds-words-end-3
slice_bounds-words-end-3 c =
    let n = length c.args.input.now in
    let rest = drop (n / 4) c.word_room-words.result in
    let whole = sym c.ragged.ensures ∙ c.if-ragged.false in
    let read = read-words c.args.input.now c.words.new.out rest whole c.words.ensures in
    omega (arith, length-append c.words.new.out rest, read.0)

pub slice_bounds-question-end : goal.slice_bounds-question-end
slice_bounds-question-end c =
    let rest = drop (length c.args.input.now / 4) c.word_room-words.result in
    let whole = sym c.ragged.ensures ∙ c.if-ragged.false in
    let read = read-words c.args.input.now c.words.new.out rest whole c.words.ensures in
    sym (ap length (read.1 ∙ sym c.words.ensures) ∙ read.0)

pub question-requires : goal.question-requires
question-requires c =
    let n = length c.args.input.now in
    let rest = drop (n / 4) c.word_room-words.result in
    let whole = sym c.ragged.ensures ∙ c.if-ragged.false in
    let read = read-words c.args.input.now c.words.new.out rest whole c.words.ensures in record {
      some = omega (arith, ap length (read.1 ∙ sym c.words.ensures), read.0, (whole_words n whole).0);
      room = c.requires;
    }

pub returns : goal.returns
returns c =
    let a = c.args in
    let q = c.question in
    let rest = drop (length a.input.now / 4) c.word_room-words.result in
    let whole = sym c.ragged.ensures ∙ c.if-ragged.false in
    let read = read-words a.input.now c.words.new.out rest whole c.words.ensures in
    subst (λ (t : List ℕ). Begins t q.new.answer q.result) (sym (output-asked a.input.now c.if-n-gt-MOST_BYTES.false whole))
    (subst (λ (x : List ℕ). Begins (asked (get_or x 0 0) (drop 1 x)) q.new.answer q.result) read.1 q.ensures)
