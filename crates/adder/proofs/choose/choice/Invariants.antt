-- `adder::choose::choice` meets its contract. The invariant: the first w words are chosen.
-- Assumes nothing.
use Rattle.words.proofs.Entries.{Filled}
use Rattle.words.proofs.Adders.{wordwise}
use Rattle.adder.proofs.Bits.{choice_word}
use Rattle.adder.proofs.choose.choice.Given as goal

abbrev pub invariant-loop-w : goal.invariant-loop-w
invariant-loop-w l = Filled (wordwise choice_word l.a l.b l.m) l.initial.r l.r l.w
