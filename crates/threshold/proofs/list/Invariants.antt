-- The invariant: the chunk is empty, and what comes before the rest of the listing was written.
-- The measure is the rows left: each chunk goes on, since a line fits.
use Rattle.std.proofs.Common.{◌≡◌, ◌-◌, []}
use Rattle.text.specs.Listings.{lines_left}
use Rattle.threshold.proofs.Writing.{Partly}
use Rattle.threshold.proofs.list.Given as goal

abbrev pub invariant-loop-listing : goal.invariant-loop-listing
invariant-loop-listing g l =
    (l.chunk.bytes ≡ [])
    × Partly (lines_left l.initial.listing) (g.W.Write.contents l.initial.writer) (g.W.Write.contents l.writer) (lines_left l.listing)

abbrev pub decreases-loop-listing : goal.decreases-loop-listing
decreases-loop-listing g l = l.listing.rows - l.listing.row
