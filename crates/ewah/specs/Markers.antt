-- A marker's fields in code and in paper 01's word.
-- Assumes nothing.
use Rattle.std.specs.Prelude.{ℕ, ◌≤◌, ◌<◌, ◌≡◌}
use Rattle.meaning.specs.Limits.{most_clean, most_dirty}
use Rattle.meaning.specs.Ewah.{value_of, clean_of, dirty_of}
use Rattle.ewah.specs.declared.marker.Marker.{Marker}

-- they fit their bits
pub record InRange (m : Marker) : Type 0 where
  pub value_low : m.value < 2
  pub clean-low : m.clean ≤ most_clean
  pub dirty-low : m.dirty ≤ most_dirty

-- they are those of the word w
pub record FieldsOf (w : ℕ) (m : Marker) : Type 0 where
  pub value-is : m.value ≡ value_of w
  pub clean_is : m.clean ≡ clean_of w
  pub dirty-is : m.dirty ≡ dirty_of w
  pub in-range : InRange m
