-- `adder::rows::put_both` meets its contract. The invariant: the first w words of the row are put.
-- Assumes nothing.
use Prim.Native.Nat.{◌+◌}
use Rattle.words.proofs.Entries.{Filled}
use Rattle.adder.proofs.Filling.{put_word}
use Rattle.adder.proofs.rows.put_both.Given as goal

abbrev pub invariant-loop-w : goal.invariant-loop-w
invariant-loop-w l = Filled (put_word l.a l.b l.initial.z l.at) l.initial.z l.z (l.at + l.w)
