-- What a refusal prints.
-- Assumes nothing.
use Rattle.std.specs.Prelude.{ℕ, List, [], ◌∷◌, ◌++◌}
use Rattle.std.specs.Fmt.{decimal}
use Rattle.answers.specs.declared.refusal.Refusal.{Refusal}
use Rattle.answers.specs.Told.{number_of}

-- "refused "
abbrev pub refused_label : List ℕ
refused_label = 114 ∷ 101 ∷ 102 ∷ 117 ∷ 115 ∷ 101 ∷ 100 ∷ 32 ∷ []

-- its number, its bitmap and its word, a space before each
unfoldable pub refusal_text : Refusal → List ℕ
refusal_text r = refused_label ++ (decimal (number_of r.fault) ++ 32 ∷ (decimal r.bitmap ++ 32 ∷ decimal r.word))
