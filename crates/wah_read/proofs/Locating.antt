-- A walk from word to word up to segment s: its piece is among those from the walk's word on, and is that word's or one further on.
-- Assumes nothing.
use Prim.Native.Nat.{ℕ, ◌+◌, ◌-◌, ◌≤◌, ◌<◌}
use mathlib.Core.Path.{◌≡◌, refl, sym, ap, ◌∙◌}
use mathlib.Core.List.{List}
use lib.ListN.{length, drop, get_or, drop_of_length-le}
use native.Mathlib.Omega.{arith}
use Rattle.meaning.specs.Piece.{piece_size}
use Rattle.meaning.specs.Wah.{piece_of, wah_pieces, wah_segments}
use Rattle.meaning.specs.Extent.{span_at}
use Rattle.laws.proofs.Spans.{AtWord, at-word}
use Rattle.wah.specs.Words.{Spells}
use Rattle.wah.proofs.Spelled.{spells-none}
use Rattle.extent.specs.Place.{PlaceOf}
use Rattle.wah_read.proofs.Passing.{segments-on, segment-here, segment-later}

-- the walk stands at a word, and the segment is so many ahead
pub record Seeks (b : List ℕ) (s at ahead : ℕ) : Type 0 where
  pub near : ahead ≤ s
  pub there : ahead < length (wah_segments (drop at b))
  pub word : get_or (wah_segments (drop at b)) ahead 0 ≡ get_or (wah_segments b) s 0
  pub same : span_at 0 (wah_pieces b) s ≡ span_at (s - ahead) (wah_pieces (drop at b)) s

pub seeks-start : (b : List ℕ) (s : ℕ) → s < length (wah_segments b) → Seeks b s 0 s
seeks-start b s h =
    let z : s - s ≡ 0 = omega arith in
    record { near = omega arith; there = h; word = refl; same = rw z refl }

-- behind the last word there is none
pub seeks-end : {b : List ℕ} {s at ahead : ℕ} → Seeks b s at ahead → length b ≤ at → ⊥
seeks-end {b = b} {at = at} g h =
    let none : length (wah_segments (drop at b)) ≡ 0 = ap length (ap wah_segments (drop_of_length-le b h) ∙ spells-none) in
    omega (arith, g.there)

-- at a word of n segments
module _ {b : List ℕ} {s at ahead : ℕ} (g : Seeks b s at ahead) (h : at < length b) (n : ℕ) (size : n ≡ piece_size (piece_of (get_or b at 0))) where
  spans : AtWord s b at (s - ahead) n
  spans = at-word s b at (s - ahead) n h size

  pub found : ahead < n → (x : ℕ) → Spells (get_or b at 0) x → PlaceOf (wah_segments b) (wah_pieces b) s (record { word = x; from = s - ahead; size = n })
  found l x e = record {
    word-is = segment-here b at h n size ahead x l e ∙ g.word;
    span-is = sym (g.same ∙ spans.in-it (omega (arith, g.near)));
  }

  pub seeks-next : n ≤ ahead → Seeks b s (at + 1) (ahead - n)
  seeks-next l =
      let e : s - ahead + n ≡ s - (ahead - n) = omega (arith, g.near) in
      record {
        near = omega (arith, g.near);
        there = omega (arith, g.there, segments-on b at h n size);
        word = sym (segment-later b at h n size ahead l) ∙ g.word;
        same = rw (← e) (g.same ∙ spans.behind (omega (arith, g.near)));
      }
