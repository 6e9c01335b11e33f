-- The readings of the append writer hold.
-- Assumes nothing.
use mathlib.Core.Path.{◌≡◌, refl}
use mathlib.Core.Bool.{true}
use Rattle.batches.specs.AppendReadings.{all_appends_pass, append_readings}

-- by computing them
pub append-readings-hold : all_appends_pass append_readings ≡ true
unfolding all_appends_pass append_readings
append-readings-hold = refl
