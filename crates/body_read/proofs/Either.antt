-- What a body has to be for its format's own walk, and that the rows are those of its format.
-- Assumes nothing.
use Prim.Native.Nat.{ℕ}
use mathlib.Core.Path.{◌≡◌, sym, ap, subst}
use mathlib.Core.List.{List}
use Rattle.meaning.specs.Ewah.{ewah_rows}
use Rattle.meaning.specs.Wah.{wah_rows}
use Rattle.meaning.specs.Format.{rows_of}
use Rattle.meaning.specs.declared.Format.{Format}
use Rattle.meaning.specs.declared.Format.TheVariants.{Ewah, Wah}
use Rattle.laws.specs.Laws.{SoundFacts}

-- the facts of the format that it is
pub facts-as : (F : Format) (R : ℕ) (b : List ℕ) (G : Format) → F ≡ G → SoundFacts F R b → SoundFacts G R b
facts-as F R b G e f = subst (λ (H : Format). SoundFacts H R b) e f

-- the rows of a body, by its format
module _ (F : Format) (b : List ℕ) where
  pub rows-ewah : F ≡ Ewah → ewah_rows b ≡ rows_of F b
  unfolding ewah_rows rows_of
  rows-ewah e = sym (ap (λ (G : Format). rows_of G b) e)

  pub rows-wah : F ≡ Wah → wah_rows b ≡ rows_of F b
  unfolding wah_rows rows_of
  rows-wah e = sym (ap (λ (G : Format). rows_of G b) e)
