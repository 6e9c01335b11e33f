-- `text::listing::Listing::next` meets its contract: `same-standing` within a segment; else `next-standing`, with the cursor one
-- segment on.
-- Assumes nothing.
use mathlib.Core.Path.{refl}
use native.Mathlib.Omega.{arith}
use Rattle.text.proofs.Walking.{may-step, next-standing}
use Rattle.text.proofs.Stepping.{row-here}
use Rattle.text.proofs.listing.Listing.next.Goals as goal

pub advance-self-requires-clause-n_bound : goal.advance-self-requires-clause-n_bound
advance-self-requires-clause-n_bound c =
    let s = c.args.self.now in
    (may-step s.standing (row-here s c.requires)).1.1

pub invariant_of-self : goal.invariant_of-self
invariant_of-self c =
    let s = c.args.self.now in
    record {
      covers = s.covers;
      standing = next-standing s.standing (row-here s c.requires) c.advance-self.result _ refl (omega (arith, c.if-self-width.true, c.width.ensures)) c.advance-self.ensures;
    }
