-- What the EWAH writer promises of drafts, said of the segments that were put.
-- Assumes nothing.
use Prim.Native.Nat.{ℕ, ◌*◌, ◌^◌, ◌≤◌, ◌<◌}
use mathlib.Core.Path.{◌≡◌}
use mathlib.Core.List.{List, foldl, foldl-append}
use native.Mathlib.Omega.{arith}
use lib.ListN.{length}
use Rattle.meaning.specs.Segment.{Segment}
use Rattle.meaning.specs.Canonical.{blank, body, put, ewah_of}
use Rattle.meaning.specs.declared.Format.TheVariants.{Ewah}
use Rattle.laws.proofs.Least.{puts-add}
use Rattle.ewah_write.specs.declared.writer.Writer.{Writer}
use Rattle.ewah_write.specs.Drafts as drafts
use Rattle.ewah_write.proofs.Growing.{used-is}
use Rattle.body_write.specs.Bodies.{Stands, Growing, Grown, RoomFor, Pushed}

pub ewah-used : {w : Writer} {ss : List Segment} → Stands Ewah w ss
    → (w.used ≡ length (ewah_of ss)) × (w.used ≤ 2 * length ss)
unfolding ewah_of
ewah-used {ss} t =
    let e = used-is (foldl put blank ss) t.tracks in
    (e, (unfold body in omega (arith, puts-add blank ss)))

pub ewah-growing : {w : Writer} (n : ℕ) → Growing Ewah w n → drafts.Writing w × (w.used < 2 ^ 62)
ewah-growing n g = ((foldl put blank g.0, g.1.tracks), omega (arith, ewah-used g.1, g.2))

pub ewah-grown : {w r : Writer} (ss : List Segment) → drafts.Grown w ss r → Grown Ewah w ss r
ewah-grown ss g before t h =
    record { tracks = rw (foldl-append put blank before ss) (g (foldl put blank before) t.tracks) }

pub ewah-room : {w : Writer} {n : ℕ} (ss : List Segment) → RoomFor Ewah ss w n → drafts.RoomFor ss w n
unfolding ewah_of
ewah-room ss g = (foldl put blank g.0, g.1.tracks, rw (foldl-append put blank g.0 ss) at g.3)

pub ewah-pushed : {out out' : List ℕ} {w r : Writer} (real : ℕ) (ss : List Segment) → drafts.Pushed out out' w ss r
    → Pushed Ewah real out out' w ss r
unfolding ewah_of
ewah-pushed real ss p = record {
  grown = ewah-grown ss p.grown;
  drawn = λ before t h b.
      rw (foldl-append put blank before ss)
      (p.drawn (foldl put blank before) (record { tracks = t.tracks; words = b })).words;
  kept = p.kept;
}
