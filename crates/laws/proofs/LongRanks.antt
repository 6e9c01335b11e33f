-- The readings of the largest and smallest rows that take long to compute hold.
-- Assumes nothing.
use mathlib.Core.Path.{◌≡◌, refl}
use mathlib.Core.Bool.{true}
use Rattle.meaning.specs.Ewah.{ewah_fault}
use Rattle.meaning.specs.Wah.{wah_fault}
use Rattle.column_meaning.specs.ColumnReadings.{all_columns_pass, long_rank_readings}

-- by computing them
pub long-ranks-hold : all_columns_pass long_rank_readings ≡ true
unfolding all_columns_pass long_rank_readings ewah_fault wah_fault
long-ranks-hold = refl
