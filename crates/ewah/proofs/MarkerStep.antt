-- A walk over a body in code: one step of it is over a marker that was read.
-- Assumes nothing.
use Prim.Native.Nat.{ℕ, ◌<◌}
use mathlib.Core.List.{List}
use lib.ListN.{length, get_or}
use Rattle.laws.proofs.Walk.{At, Step, step}
use Rattle.ewah.specs.Markers.{FieldsOf}
use Rattle.ewah.specs.declared.marker.Marker.{Marker}

pub read_step : (b : List ℕ) (i o : ℕ) (m : Marker) → At b i 0 o → i < length b → FieldsOf (get_or b i 0) m → Step b i o m.value m.clean m.dirty
read_step b i o m a h f = step b i o m.value m.clean m.dirty a h f.value-is f.clean_is f.dirty-is
