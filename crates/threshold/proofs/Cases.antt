-- The table of readings holds, by computing.
-- Assumes nothing.
use mathlib.Core.Bool.{true}
use mathlib.Core.Path.{◌≡◌, refl}
use Rattle.meaning.specs.Ewah.{ewah_fault}
use Rattle.meaning.specs.Wah.{wah_fault}
use Rattle.threshold.specs.Readings.{all_pass, readings}

pub readings-hold : all_pass readings ≡ true
unfolding all_pass readings ewah_fault wah_fault
readings-hold = refl
