-- `starred::parts` meets its contract: each reading is computed from the definitions. Assumes nothing.
use Rattle.meaning.specs.Ewah.{ewah_fault}
use Rattle.meaning.specs.Answer.{bitmap, part_of}
use mathlib.Core.Path.{refl}
use Rattle.starred.proofs.parts.Goals as goal

pub bitmap-requires : goal.bitmap-requires
unfolding bitmap part_of ewah_fault
bitmap-requires c = refl

pub bitmap-requires-2 : goal.bitmap-requires-2
unfolding bitmap part_of ewah_fault
bitmap-requires-2 c = refl

pub bitmap-requires-3 : goal.bitmap-requires-3
unfolding bitmap part_of ewah_fault
bitmap-requires-3 c = refl
