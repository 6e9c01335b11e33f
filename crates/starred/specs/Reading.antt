-- What a reading expects of a call that writes, given a buffer of four sevens.
-- Assumes nothing.
use Rattle.std.specs.Prelude.{ℕ, ◌≡◌, List, [], ◌∷◌}
use Rattle.meaning.specs.Refusal.{Outcome, answer}
use Rattle.meaning.specs.Answer.{buffer_after, words_reported}

abbrev pub sevens : List ℕ
sevens = 7 ∷ 7 ∷ 7 ∷ 7 ∷ []

-- an answer of so many words, and the buffer afterwards
pub record Writes (o : Outcome (List ℕ)) (words : ℕ) (after : List ℕ) : Type 0 where
  pub body : List ℕ
  pub is-answer : o ≡ answer body
  pub words_are : words_reported o ≡ words
  pub after_is : buffer_after o sevens ≡ after
