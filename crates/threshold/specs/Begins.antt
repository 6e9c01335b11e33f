-- What comes first of the program's output, and what is still to be listed behind it.
-- Assumes nothing.
use Rattle.std.specs.Prelude.{ℕ, ◌≤◌, ◌≡◌, List, ◌++◌, length, take, Result, Ok, Err}
use Rattle.meaning.specs.Format.{rows_of}
use Rattle.answers.specs.declared.refusal.Refusal.{Refusal}
use Rattle.answers.specs.Told.{number_of}
use Rattle.threshold.specs.declared.start.Begun.{Begun}
use Rattle.text.specs.Lines.{refused_text, head_text, lines_from}
use Rattle.text.specs.Standings.{Covers}

-- the head, and the rows of the body that stands at the front of the answer buffer
pub record Answers (text answer' : List ℕ) (b : Begun) : Type 0 where
  pub is : text ≡ head_text b.head.rows b.head.named b.head.t b.head.set
      ++ lines_from (rows_of b.format (take b.words answer')) 0 b.head.rows
  pub inside : b.words ≤ length answer'
  pub covers : Covers b.format (take b.words answer') b.head.rows

-- a text that is an answer's, or the line of a refusal
abbrev pub Begins : (text answer' : List ℕ) → Result Begun Refusal → Type 0
Begins text answer' (Ok b) = Answers text answer' b
Begins text answer' (Err r) = text ≡ refused_text (number_of r.fault) r.bitmap r.word
