-- `text::listing::Listing::new` meets its contract: by `opened-standing`, a cursor on the first piece stands at row 0.
-- Assumes nothing.
use Rattle.text.proofs.Walking.{opened-standing}
use Rattle.text.proofs.listing.Listing.new.Goals as goal

pub invariant_of-result : goal.invariant_of-result
invariant_of-result c =
    record { covers = c.requires; standing = opened-standing c.args.format c.args.body.now c.open.result c.requires.some c.requires.few c.open.ensures }
