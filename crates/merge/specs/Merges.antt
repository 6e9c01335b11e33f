-- What a question over a list asks of its arguments, and what the engine gives: the canonical body of the answer's
-- rows, and the stretches.
-- Assumes nothing.
use Rattle.std.specs.Prelude.{ℕ, ◌≤◌, Bool, true, false, ◌≡◌, List, ◌++◌, map, length, drop}
use Rattle.meaning.specs.Limits.{histogram_counts}
use Rattle.meaning.specs.Format.{canonical}
use Rattle.meaning.specs.Index.{format_of, row_count, body_at}
use Rattle.meaning.specs.Question.{stretches}
use Rattle.laws.specs.Laws.{IndexFacts}
use Rattle.laws.specs.Ahead.{answer_rows}
use Rattle.answers.specs.declared.answer.Report.{Report}
use Rattle.walk.specs.Queries.{Listed}
use Rattle.merge.specs.declared.evaluate.Operation.{Operation}
use Rattle.merge.specs.Operations.{chosen}

-- a sound index, and a list that names some of its bitmaps
pub record Walkable (index list : List ℕ) : Type 0 where
  pub facts : IndexFacts index
  pub listed : Listed index list
  pub some : 1 ≤ length list

-- with them a table with no more entries than there are numbers that a list can reach
pub record Mergeable (index list : List ℕ) (op : Operation) (table : List ℕ) : Type 0 where
  pub walkable : Walkable index list
  pub few-entries : length table ≤ histogram_counts

-- the bodies that a list names
abbrev pub bodies_of : (index list : List ℕ) → List (List ℕ)
bodies_of index list = map (body_at index) list

-- the canonical body of the answer's rows
unfoldable pub answer_body : (index list : List ℕ) → Operation → (table : List ℕ) → List ℕ
answer_body index list op table =
    canonical (format_of index) (row_count index) (answer_rows (format_of index) (chosen op table) (bodies_of index list))

-- the words and the stretches of the answer; its words stand in the buffer where they are stored, and the rest is as
-- it was
pub record MergedTo (index list : List ℕ) (op : Operation) (table out : List ℕ) (store : Bool) (out' : List ℕ) (r : Report) : Type 0 where
  pub words_are : r.words ≡ length (answer_body index list op table)
  pub stretches-are : r.stretches ≡ stretches (format_of index) (row_count index) (bodies_of index list)
  pub stored : store ≡ true → out' ≡ answer_body index list op table ++ drop (length (answer_body index list op table)) out
  pub kept : store ≡ false → out' ≡ out
