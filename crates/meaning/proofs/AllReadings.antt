-- The starred readings hold.
-- Assumes nothing.
use mathlib.Core.Path.{◌≡◌, refl}
use mathlib.Core.Bool.{true}
use Rattle.meaning.specs.Ewah.{pieces, ewah_fault}
use Rattle.meaning.specs.Wah.{wah_pieces, wah_fault}
use Rattle.meaning.specs.Readings.{all_pass, readings}

pub readings-hold : all_pass readings ≡ true
unfolding all_pass readings pieces wah_pieces ewah_fault wah_fault
readings-hold = refl
