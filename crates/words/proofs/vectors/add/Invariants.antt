-- `words::vectors::add` meets its contract. The invariant: the first w words of both vectors are there.
-- Assumes nothing.
use Rattle.words.proofs.Entries.{Filled}
use Rattle.words.proofs.Adders.{digit_word, carry_word, wordwise}
use Rattle.words.proofs.vectors.add.Given as goal

abbrev pub invariant-loop-w : goal.invariant-loop-w
invariant-loop-w g l =
    Filled (wordwise digit_word l.a l.b l.c) l.initial.digits l.digits l.w
    × Filled (wordwise carry_word l.a l.b l.c) l.initial.carries l.carries l.w
