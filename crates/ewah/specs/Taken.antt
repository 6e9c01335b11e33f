-- What the walk from marker to marker takes off the front of a body.
-- Assumes nothing.
use Rattle.std.specs.Prelude.{ℕ, ◌≡◌, List, [], ◌∷◌, ◌++◌, length, Option, None, Some}
use Rattle.std.specs.Borrow.{Bor}
use Rattle.ewah.specs.declared.marker.Marker.{Marker}
use Rattle.ewah.specs.declared.marker.Markers.{Markers}
use Rattle.ewah.specs.Markers.{FieldsOf}

-- a body begins with a marker, which has these fields, and the dirty words that it announces; then the rest comes
pub record MarkerFirst (b : List ℕ) (m : Marker) (dirty rest : List ℕ) : Type 0 where
  pub word : ℕ
  pub fields : FieldsOf word m
  pub all : length dirty ≡ m.dirty
  pub in_turn : b ≡ word ∷ (dirty ++ rest)

abbrev pub TakesMarker : Markers → Option (Marker × Bor (List ℕ)) → Markers → Type 0
TakesMarker s None t = (s.rest.now ≡ []) × (t.rest.now ≡ [])
TakesMarker s (Some (m, dirty)) t = MarkerFirst s.rest.now m dirty.now t.rest.now
