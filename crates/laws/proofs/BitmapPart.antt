-- The part that is a bitmap's body: `PartLaws` holds.
-- Assumes nothing.
use Prim.Native.Nat.{ℕ}
use mathlib.Core.Path.{◌≡◌, sym, ap}
use mathlib.Core.List.{List, []}
use borrow.Author.Tests.{leb-false}
use Rattle.meaning.specs.Refusal.{refused, answer, sound, refuse_if, ◌then◌}
use Rattle.meaning.specs.Format.{rows_of}
use Rattle.meaning.specs.Index.{format_of, bitmap_count, body_at, rows_at, index_fault}
use Rattle.meaning.specs.Answer.{check, bad_bitmap, bitmap_refusal, bitmap, part_of}
use Rattle.laws.specs.Laws.{Known, PartLaws}
use Rattle.laws.proofs.Outcomes.{refuse-answer, then-answer, then-sound}
use Rattle.laws.proofs.IndexSound.{index-means}

part-is : (index : List ℕ) (k : ℕ) → bitmap_refusal index k ≡ sound → part_of (bitmap index k) ≡ body_at index k
unfolding bitmap part_of
part-is index k e = ap part_of (then-sound (bitmap_refusal index k) (answer (body_at index k)) e)

known : (index : List ℕ) (k : ℕ) → bitmap_refusal index k ≡ sound → Known index k
unfolding bitmap_refusal check bad_bitmap rows_at
known index k e =
    let p = then-answer (index_fault index) (refuse_if (bad_bitmap index k) 8 0 0 sound) tt e in
    let q = refuse-answer (bad_bitmap index k) 8 0 0 sound tt p.1 in
    let f = (index-means index).0 p.0 in
    let below = leb-false (bitmap_count index) k q.0 in
    let part = part-is index k e in
    record {
      facts = f;
      below = below;
      part = part;
      is-sound = rw part (f.bodies k below);
      rows = λ r. ap (λ (b : List ℕ). rows_of (format_of index) b r) (sym part);
    }

none : (index : List ℕ) (k number place word : ℕ) → bitmap_refusal index k ≡ refused number place word → part_of (bitmap index k) ≡ []
unfolding bitmap part_of ◌then◌
none index k number place word e = rw e

pub part-laws : PartLaws
part-laws = record { known = known; none = none }
