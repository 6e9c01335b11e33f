-- The readings of columns hold.
-- Assumes nothing.
use mathlib.Core.Path.{◌≡◌, refl}
use mathlib.Core.Bool.{true}
use Rattle.meaning.specs.Ewah.{ewah_fault}
use Rattle.meaning.specs.Wah.{wah_fault}
use Rattle.column_meaning.specs.ColumnReadings.{all_columns_pass, column_readings}

-- by computing them
pub column-readings-hold : all_columns_pass column_readings ≡ true
unfolding all_columns_pass column_readings ewah_fault wah_fault
column-readings-hold = refl
