-- `threshold::input::words` meets its contract. The invariant: each of the first i words is that of its four bytes.
-- Assumes nothing.
use Prim.Native.Nat.{◌/◌}
use mathlib.Core.Path.{◌≡◌}
use lib.ListN.{length}
use native.Mathlib.Omega.{arith}
use Rattle.threshold.proofs.Bytes.{words_more, words_are}
use Rattle.threshold.proofs.input.words.Goals as goal

pub loop-i-preserved : goal.loop-i-preserved
loop-i-preserved c =
    let h = c.loop-i in
    words_more _ h.out h.i _ (omega (arith, h.auto.out, c.as_chunks.ensures.front_len, c.requires, c.loop-i-test.true)) c.from_le_bytes.ensures h.invariant

pub returns : goal.returns
returns c =
    let h = c.loop-i in
    let n : length c.args.bytes.now / 4 ≡ length c.args.out.now = omega (arith, c.requires) in
    words_are _ h.out c.args.bytes.now _ (omega (arith, c.requires, n)) (omega (arith, h.auto.out, n)) c.as_chunks.ensures.front
    (λ k l. h.invariant k (omega (arith, c.as_chunks.ensures.front_len, c.loop-i-test.false, l)))
