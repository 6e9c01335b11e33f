-- A batch: what is found of its writer, and what it is answered.
-- Assumes nothing.
use Rattle.std.specs.Prelude.{ℕ, ◌+◌, Bool, ◌≡◌, List, ltb}
use Rattle.meaning.specs.Limits.{most_rows}
use Rattle.meaning.specs.Segment.{has_row}
use Rattle.meaning.specs.Refusal.{Outcome, refuse_if, ◌then◌}
use Rattle.meaning.specs.Answer.{plain_fault, write}
use Rattle.meaning.specs.Format.{rows_of}
use Rattle.meaning.specs.declared.Format.TheVariants.{Ewah}
use Rattle.batches.specs.declared.AppendState.{AppendState}
use Rattle.batches.specs.Append.{Batch, followed, in_use}
use Rattle.batches.specs.AppendLaws.{Matches}
use Rattle.resume.specs.Resume.{PlaceOf}
use Rattle.std.specs.Prelude.{Option, None, Some}
use Rattle.resume.specs.declared.Place.{Place}

abbrev pub batch_of : (rows : ℕ) → List ℕ → Batch
batch_of rows plain = record { rows = rows; plain = plain }

-- what a batch is answered behind the R rows p, whose state and buffer belong together: the rest of `append`
abbrev pub behind : (R : ℕ) → (p : ℕ → Bool) → Batch → (room : ℕ) → Outcome (List ℕ)
behind R p b room =
    refuse_if (ltb most_rows (R + b.rows)) 3 0 1
    (plain_fault b.rows b.plain then
    write Ewah (R + b.rows) (followed R p (has_row 32 b.plain)) room)

-- the writer's place in its buffer, or that state and buffer do not belong together
abbrev pub FoundIs : AppendState → List ℕ → Option Place → Type 0
FoundIs s out None = Matches s out → ⊥
FoundIs s out (Some r) = Matches s out × PlaceOf s.rows (rows_of Ewah (in_use s out)) out r
