-- `threshold::list` writes the listing: each chunk is what comes next of it, and past the last row nothing is left.
-- Assumes nothing.
use Rattle.std.proofs.Common.{subst}
use Rattle.std.specs.Io.KnownBytes.{Appends}
use Rattle.meaning.specs.Format.{rows_of}
use Rattle.text.specs.Listings.{lines_left}
use Rattle.text.proofs.Walking.{rest-past}
use Rattle.threshold.proofs.Writing.{partly-more, partly-all}
use Rattle.threshold.proofs.list.Goals as goal

pub loop-listing-preserved : goal.loop-listing-preserved
loop-listing-preserved g c =
    let l = c.loop-listing in
    let f = c.fill in
    let wrote = subst (Appends _ _) c.bytes_of.ensures c.in_ok-write_all.ensures.bytes in
    (c.clear.ensures, partly-more {text = lines_left c.args.listing} {left = lines_left l.listing} l.invariant.1 _ f.new.out.bytes _ wrote (rw l.invariant.0 at f.ensures.same))

pub returns : goal.returns
returns g c =
    let l = c.loop-listing in
    let s = l.listing in
    partly-all {text = lines_left c.args.listing} {left = lines_left s} l.invariant.1 (rest-past (rows_of s.format s.body.now) s.rows s.row c.loop-listing-test.false)
