-- The outcome, number and values, that each case of an answer tells.
-- Assumes nothing.
use Rattle.std.specs.Prelude.{ℕ, ◌≡◌, List, take, Option, None, Some, Result, Ok, Err}
use Rattle.meaning.specs.Refusal.{Outcome, refused, answer}
use Rattle.meaning.specs.Answer.{buffer_after, words_reported, stretches_reported}
use Rattle.answers.specs.declared.refusal.Refusal.{Refusal}
use Rattle.answers.specs.declared.refusal.Fault.{Fault}
use Rattle.answers.specs.declared.refusal.Fault.TheVariants.{CutOff, UnknownKind, TooLarge, WrongContents, DirtyPastEnd, WrongSegments, PadBit, BadArgument, NoRoom, EmptyFill, StrayRow, Mismatched}
use Rattle.answers.specs.declared.answer.Report.{Report}

-- the number by which a fault is told
abbrev pub number_of : Fault → ℕ
number_of CutOff = 1
number_of UnknownKind = 2
number_of TooLarge = 3
number_of WrongContents = 4
number_of DirtyPastEnd = 5
number_of WrongSegments = 6
number_of PadBit = 7
number_of BadArgument = 8
number_of NoRoom = 9
number_of EmptyFill = 10
number_of StrayRow = 11
number_of Mismatched = 12

-- a refusal's three numbers
abbrev pub refused_by : {A : Type 0} → Refusal → Outcome A
refused_by r = refused (number_of r.fault) r.bitmap r.word

-- the refusal for that fault at that word, of bitmap 0
abbrev pub refusal : (fault : Fault) (word : ℕ) → Refusal
refusal f w = record { fault = f; bitmap = 0; word = w }

-- the refusal of a row that a slice, that bitmap, has and that does not exist
abbrev pub stray_refusal : (bitmap row : ℕ) → Refusal
stray_refusal b r = record { fault = StrayRow; bitmap = b; word = r }

-- of a check, of a row, of a number or a value, and of a histogram: what is answered, or the refusal
unfoldable pub outcome_of : {A : Type 0} → Result A Refusal → Outcome A
outcome_of (Ok a) = answer a
outcome_of (Err r) = refused_by r

-- of the nth set row: where there are not so many, the argument is bad
unfoldable pub found_of : Option ℕ → Outcome ℕ
found_of (Some r) = answer r
found_of None = refused (number_of BadArgument) 0 0

-- of a call that wrote: its words are those that the buffer begins with
unfoldable pub written_of : Result ℕ Refusal → (buffer' : List ℕ) → Outcome (List ℕ)
written_of (Ok n) buffer' = answer (take n buffer')
written_of (Err r) buffer' = refused_by r

-- the words reported, none on a refusal
unfoldable pub words_of : Result ℕ Refusal → ℕ
words_of (Ok n) = n
words_of (Err r) = 0

-- a call with the outcome o: it tells that outcome and its words, and leaves the buffer as it should be
pub record Wrote (o : Outcome (List ℕ)) (r : Result ℕ Refusal) (buffer buffer' : List ℕ) : Type 0 where
  pub told : written_of r buffer' ≡ o
  pub words : words_of r ≡ words_reported o
  pub left : buffer' ≡ buffer_after o buffer

-- ---- an answer over a list, which reports its stretches too

unfoldable pub answered_of : Result Report Refusal → (buffer' : List ℕ) → Outcome (List ℕ)
answered_of (Ok a) buffer' = answer (take a.words buffer')
answered_of (Err r) buffer' = refused_by r

unfoldable pub words_in : Result Report Refusal → ℕ
words_in (Ok a) = a.words
words_in (Err r) = 0

unfoldable pub stretches_in : Result Report Refusal → ℕ
stretches_in (Ok a) = a.stretches
stretches_in (Err r) = 0

-- a call with the outcome o: it tells that outcome, its words and its stretches, and leaves the buffer as it should be
pub record Reported (index list : List ℕ) (o : Outcome (List ℕ)) (r : Result Report Refusal) (buffer buffer' : List ℕ) : Type 0 where
  pub told : answered_of r buffer' ≡ o
  pub words : words_in r ≡ words_reported o
  pub stretches : stretches_in r ≡ stretches_reported index list o
  pub left : buffer' ≡ buffer_after o buffer
