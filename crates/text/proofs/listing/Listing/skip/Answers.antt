-- `text::listing::Listing::skip` meets its contract: by `past-standing`, the cursor goes on by all that is left of its piece.
-- Assumes nothing.
use native.Mathlib.Omega.{arith}
use Rattle.text.proofs.Walking.{may-advance, past_fits, past-standing}
use Rattle.text.proofs.Stepping.{row-here}
use Rattle.text.proofs.listing.Listing.skip.Goals as goal

pub overflow_mul-self : goal.overflow_mul-self
overflow_mul-self c =
    let s = c.args.self.now in
    omega (arith, past_fits s.standing (row-here s c.requires) _ _ c.left-n.ensures c.width.ensures)

pub overflow_add-self : goal.overflow_add-self
overflow_add-self c =
    let s = c.args.self.now in
    omega (arith, past_fits s.standing (row-here s c.requires) _ _ c.left-n.ensures c.width.ensures)

pub advance-self-requires-clause-le_n : goal.advance-self-requires-clause-le_n
advance-self-requires-clause-le_n c =
    let s = c.args.self.now in
    (may-advance s.standing (row-here s c.requires) c.left-n.result c.left-n.ensures).1.0

pub invariant_of-self : goal.invariant_of-self
invariant_of-self c =
    let s = c.args.self.now in
    record {
      covers = s.covers;
      standing = (past-standing s.standing (row-here s c.requires) _ _ c.advance-self.result c.left-n.ensures c.width.ensures c.advance-self.ensures).0;
    }
