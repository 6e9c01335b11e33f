-- Which rows an operation puts into its answer.
-- Assumes nothing.
use Rattle.std.specs.Prelude.{ℕ, Bool, List, eqb, leb, get_or}
use Rattle.merge.specs.declared.evaluate.Operation.{Operation}
use Rattle.merge.specs.declared.evaluate.Operation.TheVariants.{AtLeast, Exactly, Table}

-- a row that c of the list have is in the answer
unfoldable pub chosen : Operation → (table : List ℕ) → (c : ℕ) → Bool
chosen (AtLeast t) table c = leb t c
chosen (Exactly t) table c = eqb c t
chosen Table table c = eqb (get_or table c 0) 1
