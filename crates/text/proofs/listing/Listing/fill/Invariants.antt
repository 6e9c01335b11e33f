-- `text::listing::Listing::fill` meets its contract: the bytes in the buffer and the text still to come are the same text as at entry.
-- Assumes nothing.
use Prim.Native.Nat.{◌-◌, ◌≤◌}
use mathlib.Core.Path.{◌≡◌}
use mathlib.Core.List.{◌++◌}
use Rattle.text.specs.Listings.{SameRows, lines_left}
use Rattle.text.proofs.listing.Listing.fill.Given as goal

abbrev pub invariant-loop-self : goal.invariant-loop-self
invariant-loop-self g l =
    SameRows l.initial.self l.self × (l.initial.out.bytes ++ lines_left l.initial.self ≡ l.out.bytes ++ lines_left l.self)
    × (l.initial.self.row ≤ l.self.row) × (l.self.row ≡ l.initial.self.row → l.out.bytes ≡ l.initial.out.bytes)

abbrev pub decreases-loop-self : goal.decreases-loop-self
decreases-loop-self g l = l.self.rows - l.self.row
