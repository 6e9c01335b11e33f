-- What an exported call returns for an outcome, field by field, and which outcome it tells its caller.
-- Assumes nothing.
use Rattle.std.specs.Prelude.{ℕ, zero, suc, ◌+◌, ◌≤◌, cond, ◌≡◌, List, eqb, ℤ, pos, length, take, drop, Result, Ok, Err}
use Rattle.meaning.specs.Refusal.{Outcome, refused, answer, Verdict}
use Rattle.meaning.specs.declared.Row.{Row}
use Rattle.meaning.specs.Index.{start_of, length_of}
use Rattle.meaning.specs.Answer.{buffer_after, words_reported, stretches_reported, histogram_reported, bitmap, bitmap_refusal, part_of}
use Rattle.answers.specs.declared.refusal.Refusal.{Refusal}
use Rattle.answers.specs.declared.answer.Report.{Report}
use Rattle.answers.specs.Told.{number_of}
use Rattle.replies.specs.declared.reply.Place.{Place}
use Rattle.replies.specs.declared.reply.ZvChecked.{ZvChecked}
use Rattle.replies.specs.declared.reply.ZvFlag.{ZvFlag}
use Rattle.replies.specs.declared.reply.ZvNumber.{ZvNumber}
use Rattle.replies.specs.declared.reply.ZvValue.{ZvValue}
use Rattle.replies.specs.declared.reply.ZvSignedValue.{ZvSignedValue}
use Rattle.replies.specs.declared.reply.ZvWritten.{ZvWritten}
use Rattle.replies.specs.declared.reply.ZvAnswered.{ZvAnswered}
use Rattle.replies.specs.declared.reply.ZvPart.{ZvPart}
use Rattle.replies.specs.declared.reply.ZvHistogram.{ZvHistogram}

-- ---- the fields, for an outcome: a refusal's three numbers, or three zeros and the value

module _ {A : Type 0} where
  unfoldable pub number_in : Outcome A → ℕ
  number_in (refused number bitmap word) = number
  number_in (answer a) = 0

  unfoldable pub bitmap_in : Outcome A → ℕ
  bitmap_in (refused number bitmap word) = bitmap
  bitmap_in (answer a) = 0

  unfoldable pub word_in : Outcome A → ℕ
  word_in (refused number bitmap word) = word
  word_in (answer a) = 0

  -- a value that goes with an answer, and is 0 on a refusal
  unfoldable pub if_answered : Outcome A → ℕ → ℕ
  if_answered (refused number bitmap word) n = 0
  if_answered (answer a) n = n

-- of a row: 1 for set, and the first and last row of its piece
unfoldable pub flag_in : Outcome Row → ℕ
flag_in (refused number bitmap word) = 0
flag_in (answer row) = cond row.set 1 0

unfoldable pub first_in : Outcome Row → ℕ
first_in (refused number bitmap word) = 0
first_in (answer row) = row.first

unfoldable pub last_in : Outcome Row → ℕ
last_in (refused number bitmap word) = 0
last_in (answer row) = row.last

unfoldable pub value_in : Outcome ℕ → ℕ
value_in (refused number bitmap word) = 0
value_in (answer n) = n

unfoldable pub signed_in : Outcome ℤ → ℤ
signed_in (refused number bitmap word) = pos 0
signed_in (answer z) = z

abbrev pub checked_code : Verdict → ZvChecked
checked_code o = record { number = number_in o; bitmap = bitmap_in o; word = word_in o }

abbrev pub flag_code : Outcome Row → ZvFlag
flag_code o = record { number = number_in o; bitmap = bitmap_in o; word = word_in o; value = flag_in o; first = first_in o; last = last_in o }

abbrev pub number_code : Outcome ℕ → ZvNumber
number_code o = record { number = number_in o; bitmap = bitmap_in o; word = word_in o; value = value_in o }

abbrev pub value_code : Outcome ℕ → ZvValue
value_code o = record { number = number_in o; bitmap = bitmap_in o; word = word_in o; value = value_in o }

abbrev pub signed_code : Outcome ℤ → ZvSignedValue
signed_code o = record { number = number_in o; bitmap = bitmap_in o; word = word_in o; value = signed_in o }

abbrev pub written_code : Outcome (List ℕ) → ZvWritten
written_code o = record { number = number_in o; bitmap = bitmap_in o; word = word_in o; words = words_reported o }

abbrev pub answered_code : (index list : List ℕ) → Outcome (List ℕ) → ZvAnswered
answered_code index list o = record { number = number_in o; bitmap = bitmap_in o; word = word_in o; words = words_reported o; stretches = stretches_reported index list o }

-- the place and the number of words that the index's own contents give
abbrev pub part_code : (index : List ℕ) (k : ℕ) → ZvPart
part_code index k =
    record {
      number = number_in (bitmap_refusal index k);
      bitmap = bitmap_in (bitmap_refusal index k);
      word = word_in (bitmap_refusal index k);
      start = if_answered (bitmap_refusal index k) (start_of index k);
      length = if_answered (bitmap_refusal index k) (length_of index k);
    }

-- the numbers, zeros on a refusal
abbrev pub histogram_code : Outcome (List ℕ) → ZvHistogram
histogram_code o = record { number = number_in o; bitmap = bitmap_in o; word = word_in o; counts = histogram_reported o }

-- ---- the same of an answer in code that writes: it holds how many words, and not which

unfoldable pub written_reply : Result ℕ Refusal → ZvWritten
written_reply (Ok n) = record { number = 0; bitmap = 0; word = 0; words = n }
written_reply (Err r) = record { number = number_of r.fault; bitmap = r.bitmap; word = r.word; words = 0 }

unfoldable pub answered_reply : Result Report Refusal → ZvAnswered
answered_reply (Ok a) = record { number = 0; bitmap = 0; word = 0; words = a.words; stretches = a.stretches }
answered_reply (Err r) = record { number = number_of r.fault; bitmap = r.bitmap; word = r.word; words = 0; stretches = 0 }

unfoldable pub part_reply : Result Place Refusal → ZvPart
part_reply (Ok p) = record { number = 0; bitmap = 0; word = 0; start = p.start; length = p.length }
part_reply (Err r) = record { number = number_of r.fault; bitmap = r.bitmap; word = r.word; start = 0; length = 0 }

-- ---- the outcome that a caller reads from what is returned: number 0 says that the call was not refused

unfoldable pub told : {A : Type 0} → (number bitmap word : ℕ) → A → Outcome A
told zero bitmap word a = answer a
told (suc n) bitmap word a = refused (suc n) bitmap word

abbrev pub verdict_told : ZvChecked → Verdict
verdict_told r = told r.number r.bitmap r.word tt

abbrev pub flag_told : ZvFlag → Outcome Row
flag_told r = told r.number r.bitmap r.word (record { set = eqb r.value 1; first = r.first; last = r.last })

abbrev pub number_told : ZvNumber → Outcome ℕ
number_told r = told r.number r.bitmap r.word r.value

abbrev pub value_read : ZvValue → Outcome ℕ
value_read r = told r.number r.bitmap r.word r.value

abbrev pub signed_read : ZvSignedValue → Outcome ℤ
signed_read r = told r.number r.bitmap r.word r.value

-- of a call that wrote: its words are those that the buffer begins with
abbrev pub written_told : ZvWritten → (buffer' : List ℕ) → Outcome (List ℕ)
written_told r buffer' = told r.number r.bitmap r.word (take r.words buffer')

abbrev pub answered_told : ZvAnswered → (buffer' : List ℕ) → Outcome (List ℕ)
answered_told r buffer' = told r.number r.bitmap r.word (take r.words buffer')

abbrev pub part_told : ZvPart → (index : List ℕ) → Outcome (List ℕ)
part_told r index = told r.number r.bitmap r.word (take r.length (drop r.start index))

abbrev pub counts_told : ZvHistogram → Outcome (List ℕ)
counts_told r = told r.number r.bitmap r.word r.counts

-- ---- the contracts, for the outcome o of a call: every field is settled, and the caller reads o from them

pub record Checks (o : Verdict) (r : ZvChecked) : Type 0 where
  pub code : r ≡ checked_code o
  pub tells : verdict_told r ≡ o

pub record Flags (o : Outcome Row) (r : ZvFlag) : Type 0 where
  pub code : r ≡ flag_code o
  pub tells : flag_told r ≡ o

pub record Numbers (o : Outcome ℕ) (r : ZvNumber) : Type 0 where
  pub code : r ≡ number_code o
  pub tells : number_told r ≡ o

pub record Values (o : Outcome ℕ) (r : ZvValue) : Type 0 where
  pub code : r ≡ value_code o
  pub tells : value_read r ≡ o

pub record SignedValues (o : Outcome ℤ) (r : ZvSignedValue) : Type 0 where
  pub code : r ≡ signed_code o
  pub tells : signed_read r ≡ o

pub record Writes (o : Outcome (List ℕ)) (r : ZvWritten) (buffer buffer' : List ℕ) : Type 0 where
  pub code : r ≡ written_code o
  pub tells : written_told r buffer' ≡ o
  pub left : buffer' ≡ buffer_after o buffer

pub record Reports (index list : List ℕ) (o : Outcome (List ℕ)) (r : ZvAnswered) (buffer buffer' : List ℕ) : Type 0 where
  pub code : r ≡ answered_code index list o
  pub tells : answered_told r buffer' ≡ o
  pub left : buffer' ≡ buffer_after o buffer

-- the part lies within the index, and its words are bitmap k's body; it is empty, at word 0, on a refusal
pub record Lends (index : List ℕ) (k : ℕ) (r : ZvPart) : Type 0 where
  pub code : r ≡ part_code index k
  pub tells : part_told r index ≡ bitmap index k
  pub within : r.start + r.length ≤ length index
  pub part : take r.length (drop r.start index) ≡ part_of (bitmap index k)

pub record Counts (o : Outcome (List ℕ)) (r : ZvHistogram) : Type 0 where
  pub code : r ≡ histogram_code o
  pub tells : counts_told r ≡ o
