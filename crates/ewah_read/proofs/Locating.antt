-- A walk from marker to marker up to segment s: its piece is among those from the walk's marker on, and lies there or further on.
-- Assumes nothing.
use Prim.Native.Nat.{ℕ, ◌+◌, ◌-◌, ◌≤◌, ◌<◌}
use mathlib.Core.Path.{◌≡◌, refl, sym, ap, ◌∙◌}
use mathlib.Core.List.{List}
use lib.ListN.{drop, get_or}
use native.Mathlib.Omega.{arith}
use Rattle.meaning.specs.Segment.{fill}
use Rattle.meaning.specs.Ewah.{segments, pieces, due_after}
use Rattle.meaning.specs.Extent.{span_at}
use Rattle.laws.proofs.Spans.{AtMarker, at-marker}
use Rattle.ewah.specs.Taken.{MarkerFirst}
use Rattle.ewah.specs.declared.marker.Marker.{Marker}
use Rattle.ewah.proofs.Taking.{Left, left-start, left-inside, left-fields, left-step, left-dirty, left-behind, left-next}
use Rattle.extent.specs.Place.{PlaceOf}

-- the walk has `rest` left, from a marker on, and the segment is so many ahead
pub record Seeks (b : List ℕ) (s : ℕ) (rest : List ℕ) (ahead : ℕ) : Type 0 where
  pub left : Left b rest (s - ahead)
  pub near : ahead ≤ s
  pub same : span_at 0 (pieces 0 b) s ≡ span_at (s - ahead) (pieces 0 rest) s

pub seeks-start : (b : List ℕ) (s : ℕ) (rest : List ℕ) → rest ≡ b → due_after 0 b ≡ 0 → Seeks b s rest s
seeks-start b s rest e d =
    let z : s - s ≡ 0 = omega arith in
    record { left = rw z (left-start b rest e d); near = omega arith; same = rw (z, e) refl }

-- over the marker that was taken off
module _ {b : List ℕ} {s : ℕ} {rest : List ℕ} {ahead : ℕ} (g : Seeks b s rest ahead)
    {m : Marker} {dirty next : List ℕ} (f : MarkerFirst rest m dirty next) where
  spans : AtMarker s b g.left.at (s - ahead) m.clean m.dirty
  spans =
      let w = left-fields g.left f in
      at-marker s b g.left.at (s - ahead) m.clean m.dirty (left-inside g.left f) (left-step g.left f).fits w.clean_is w.dirty-is

  same : span_at 0 (pieces 0 b) s ≡ span_at (s - ahead) (pieces 0 (drop g.left.at b)) s
  same = rw (← g.left.is) g.same

  pub found-run : ahead < m.clean → (x : ℕ) → x ≡ fill 32 m.value
      → PlaceOf (segments b) (pieces 0 b) s (record { word = x; from = s - ahead; size = m.clean })
  found-run l x e =
      let k : s - ahead + ahead ≡ s = omega (arith, g.near) in
      record {
        word-is = e ∙ sym ((left-step g.left f).run_at ahead l) ∙ ap (λ (i : ℕ). get_or (segments b) i 0) k;
        span-is = sym (same ∙ spans.in-run (omega arith) (omega (arith, g.near)));
      }

  pub found_word : m.clean ≤ ahead → ahead - m.clean < m.dirty
      → PlaceOf (segments b) (pieces 0 b) s (record { word = get_or dirty (ahead - m.clean) 0; from = s; size = 1 })
  found_word l k =
      let e : s - ahead + m.clean + (ahead - m.clean) ≡ s = omega (arith, g.near) in
      record {
        word-is = left-dirty g.left f (ahead - m.clean) k ∙ ap (λ (i : ℕ). get_or (segments b) i 0) e;
        span-is = sym (same ∙ spans.in_words (omega (arith, g.near)) (omega (arith, g.near)));
      }

  pub seeks-next : m.clean ≤ ahead → m.dirty ≤ ahead - m.clean → Seeks b s next (ahead - m.clean - m.dirty)
  seeks-next l k =
      let e : s - ahead + m.clean + m.dirty ≡ s - (ahead - m.clean - m.dirty) = omega (arith, g.near) in
      let later = ap (λ (ws : List ℕ). span_at (s - ahead + m.clean + m.dirty) (pieces 0 ws) s) (sym (left-behind g.left f)) in
      record {
        left = rw (← e) (left-next g.left f);
        near = omega (arith, g.near);
        same = rw (← e) (same ∙ spans.behind (omega (arith, g.near)) ∙ later);
      }
