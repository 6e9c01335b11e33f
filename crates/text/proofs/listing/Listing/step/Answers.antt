-- `text::listing::Listing::step` meets its contract: a piece of zeros and a row are two laws of `Stepping`.
-- Assumes nothing.
use Rattle.text.proofs.Stepping.{stepped-skip, stepped_row}
use mathlib.Core.Path.{sym}
use mathlib.Core.List.{append-nil}
use Rattle.text.proofs.listing.Listing.step.Goals as goal
use Rattle.text.proofs.listing.Listing.step.Goals.{then-has, else-has}

pub returns-then-word-eq0 : goal.returns-then-word-eq0
returns-then-word-eq0 g c =
    stepped-skip c.args.self.now _ c.skip.ensures.of c.requires.row _ c.word-word.ensures _ c.if-word-eq0.true c.skip.ensures.row

pub returns : goal.returns
returns g c =
    stepped_row c.args.self.now _ c.next.ensures.of c.requires.row _ c.word-word.ensures _ _ c.next.ensures.row
    (elim c.if-has.branch [
      | then-has w ↦ rw (← c.has.ensures, w.if-has.true, w.out-is) w.push.ensures
      | else-has w ↦ rw (← c.has.ensures, w.if-has.false, w.out-is) (sym (append-nil _))
    ])
