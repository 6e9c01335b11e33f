-- A body that is made longer by a batch of plain words: its rows, whether it fits, and what is told of it.
-- Assumes nothing.
use Rattle.std.specs.Prelude.{ℕ, ◌+◌, ◌%◌, ◌≤◌, Bool, ◌≡◌, List, length, take, drop, Result}
use Rattle.meaning.specs.Segment.{has_row}
use Rattle.meaning.specs.Format.{canonical}
use Rattle.meaning.specs.declared.Format.TheVariants.{Ewah}
use Rattle.meaning.specs.Answer.{write}
use Rattle.answers.specs.declared.refusal.Refusal.{Refusal}
use Rattle.answers.specs.Told.{Wrote}
use Rattle.ewah_write.specs.declared.writer.Writer.{Writer}
use Rattle.row_write.specs.declared.output.Output.{Output}
use Rattle.row_write.specs.Packing.{Coming}
use Rattle.batches.specs.Append.{followed}
use Rattle.resume.specs.declared.Place.{Place}
use Rattle.resume.specs.Resume.{restored}

-- the rows q below R, and then the rows of plain words
abbrev pub longer : (R : ℕ) → (q : ℕ → Bool) → (plain : List ℕ) → ℕ → Bool
longer R q plain = followed R q (has_row 32 plain)

-- the canonical body of the R rows q and of k rows more, those of plain words, fits the buffer
abbrev pub Fits : (R : ℕ) → (q : ℕ → Bool) → (k : ℕ) → (plain out : List ℕ) → Type 0
Fits R q k plain out = length (canonical Ewah (R + k) (longer R q plain)) ≤ length out

-- r tells of this body, and of the buffer from `out` to `out'`, what a call that writes it does
abbrev pub WroteLonger : (R : ℕ) → (q : ℕ → Bool) → (k : ℕ) → (plain : List ℕ) → Result ℕ Refusal → (out out' : List ℕ) → Type 0
WroteLonger R q k plain r out out' = Wrote (write Ewah (R + k) (longer R q plain) (length out)) r out out'

-- the output o has the writer and the rows of the place p, behind R rows
abbrev pub Reopened : (R : ℕ) → Place → Output → Type 0
Reopened R p o = (o.writer ≡ p.writer) × (o.packer.word ≡ p.part) × (o.packer.have ≡ R % 32)

-- the output has R rows, and k rows more, those of plain words, are the last of the R + k rows q
abbrev pub BatchNext : (R : ℕ) → (q : ℕ → Bool) → (old : List ℕ) (store : Bool) (out : List ℕ) → Output
    → (plain : List ℕ) (k : ℕ) → Type 0
BatchNext R q old store out o plain k = Coming Ewah (R + k) q old store out R o (has_row 32 plain) k

-- from `out` to `out'` the words in use got the writer's last marker as the writer has it; the words behind stayed
pub record MarkerStored (out out' : List ℕ) (w : Writer) : Type 0 where
  pub words : take w.used out' ≡ take w.used (restored out w)
  pub kept : drop w.used out' ≡ drop w.used out
  pub long : length out' ≡ length out
