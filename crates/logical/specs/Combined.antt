-- Which rows a logical question on two bitmaps asks for.
-- Assumes nothing.
use Rattle.std.specs.Prelude.{ℕ, Bool}
use Rattle.meaning.specs.Question.{intersection, union, symmetric_difference, difference}
use Rattle.logical.specs.declared.Logical.{Logical}
use Rattle.logical.specs.declared.Logical.TheVariants.{And, Or, Xor, AndNot}

abbrev pub combined : Logical → (ℕ → Bool) → (ℕ → Bool) → ℕ → Bool
combined And = intersection
combined Or = union
combined Xor = symmetric_difference
combined AndNot = difference
