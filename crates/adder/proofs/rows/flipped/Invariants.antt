-- `adder::rows::flipped` meets its contract. The invariant: the first w words are flipped, or not.
-- Assumes nothing.
use lib.Bits.{bit_xor}
use lib.ListN.{get_or}
use Rattle.words.proofs.Entries.{Filled}
use Rattle.adder.proofs.rows.flipped.Given as goal

abbrev pub invariant-loop-w : goal.invariant-loop-w
invariant-loop-w l = Filled (λ i. bit_xor (get_or l.a i 0) l.mask) l.initial.r l.r l.w
