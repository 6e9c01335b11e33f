-- What the WAH writer promises of drafts, said of the segments that were put.
-- Assumes nothing.
use Prim.Native.Nat.{ℕ, ◌+◌, ◌^◌, ◌≤◌, ◌<◌}
use mathlib.Core.Path.{◌≡◌}
use mathlib.Core.List.{List, [], foldl, foldl-append}
use native.Mathlib.Omega.{arith}
use lib.ListN.{length}
use Rattle.meaning.specs.Limits.{most_fill}
use Rattle.meaning.specs.Segment.{Segment}
use Rattle.meaning.specs.Wah.{WahDraft, wah_draft, wah_body, wah_put}
use Rattle.meaning.specs.declared.Format.TheVariants.{Wah}
use Rattle.ewah_write.specs.declared.writer.Writer.{Writer}
use Rattle.wah_write.specs.WahDrafts as drafts
use Rattle.wah_write.proofs.Runs.{body-length, puts-add, puts-run}
use Rattle.wah_write.proofs.Growing.{used-is, clean_is}
use Rattle.body_write.specs.Bodies.{Stands, Growing, Grown, RoomFor, Pushed}

abbrev none : WahDraft
none = wah_draft [] 0 0

pub wah-used : {w : Writer} {ss : List Segment} (real : ℕ) → Stands Wah w ss
    → (w.used ≡ length (wah_body real (foldl wah_put none ss))) × (w.used ≤ length ss)
wah-used {ss} real t =
    let e = used-is real (foldl wah_put none ss) t.tracks in
    (e, omega (arith, body-length real (foldl wah_put none ss), puts-add ss none))

-- no run is longer than all segments are
pub wah-growing : {w : Writer} (n : ℕ) → Growing Wah w n → (w.used < 2 ^ 62) × (w.last.clean + n ≤ most_fill)
wah-growing n g =
    let ss = g.0 in
    let c = clean_is (foldl wah_put none ss) g.1.tracks in
    (omega (arith, wah-used 31 g.1, g.2), omega (arith, puts-run ss none, g.2))

pub wah-grown : {w r : Writer} (ss : List Segment) → drafts.Grown w ss r → Grown Wah w ss r
wah-grown ss g before t h =
    record { tracks = rw (foldl-append wah_put none before ss) (g (foldl wah_put none before) t.tracks) }

pub wah-room : {w : Writer} {n : ℕ} (ss : List Segment) → RoomFor Wah ss w n → drafts.RoomFor ss w n
wah-room ss g = (foldl wah_put none g.0, g.1.tracks, rw (foldl-append wah_put none g.0 ss) at g.3)

-- in room for them a run of as many can go on
pub wah-fits : {w : Writer} {n : ℕ} (ss : List Segment) → RoomFor Wah ss w n → w.last.clean + length ss ≤ most_fill
wah-fits ss g = (wah-growing (length ss) (g.0, g.1, g.2)).1

pub wah-pushed : {out out' : List ℕ} {w r : Writer} (real : ℕ) (ss : List Segment) → drafts.Pushed real out out' w ss r
    → Pushed Wah real out out' w ss r
wah-pushed real ss p = record {
  grown = wah-grown ss p.grown;
  drawn = λ before t h b. rw (foldl-append wah_put none before ss) (p.drawn (foldl wah_put none before) t.tracks b);
  kept = p.kept;
}
