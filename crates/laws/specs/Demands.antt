-- Demands 2 and 3, each sentence a field, over the definitions of the other files. `proofs/Demanded` proves them and
-- `StretchesHold`, `proofs/Counted` what is said of nth and of histograms.
-- Sections "Questions over a list" and "How tight the wording has to be" of paper 01.
-- Assumes nothing.
use Rattle.std.specs.Prelude.{ℕ, ◌*◌, ◌^◌, ◌≤◌, ◌<◌, Bool, true, false, ◌≡◌, ◌↔◌, List, ◌++◌, length, get_or, drop}
use Rattle.meaning.specs.Limits.{most_rows, most_named, word_bits}
use Rattle.meaning.specs.Rows.{count_below, nth_below}
use Rattle.meaning.specs.Segment.{has_row, segment_count, last_limit, last_of}
use Rattle.meaning.specs.Refusal.{Outcome, refused, answer, sound}
use Rattle.meaning.specs.Format.{Sound, rows_of, Canonical, canonical}
use Rattle.meaning.specs.declared.Format.{Format}
use Rattle.meaning.specs.Index.{SoundIndex, format_of, row_count, bitmap_count}
use Rattle.meaning.specs.Question.{held, histogram_of, sum_of, total_words}
use Rattle.meaning.specs.Answer.{buffer_after, check, bad_threshold, named, named_bodies, right_rows, threshold, symmetric, expand, compress, words_reported, stretches_reported}

-- a list of 32-bit words
abbrev pub Words : List ℕ → Type 0
Words ws = (i : ℕ) → get_or ws i 0 < 2 ^ word_bits

-- of R rows the body has exactly those of p
abbrev pub Exactly : Format → (R : ℕ) → (ℕ → Bool) → List ℕ → Type 0
Exactly F R p b = (r : ℕ) → r < R → rows_of F b r ≡ p r

-- a sound body of R rows, of 32-bit words, with exactly the rows p
pub record BodyOf (F : Format) (R : ℕ) (p : ℕ → Bool) (b : List ℕ) : Type 0 where
  pub words : Words b
  pub is_sound : Sound F R b
  pub rows : Exactly F R p b

-- n is the number of words of some such body, and no such body has fewer: among the bodies of one format
pub record Fewest (F : Format) (R : ℕ) (p : ℕ → Bool) (n : ℕ) : Type 0 where
  pub reached : (b : List ℕ) × BodyOf F R p b × (length b ≡ n)
  pub least : (b : List ℕ) → BodyOf F R p b → n ≤ length b

-- ---- demand 3, of any question on R rows whose answer has the format F and whose right rows are p: of its outcome and of the buffer left behind

-- refused with 9 and n; the buffer is as it was
pub record NoRoom (n : ℕ) (buffer : List ℕ) (o : Outcome (List ℕ)) (buffer' : List ℕ) : Type 0 where
  pub number : o ≡ refused 9 0 n
  pub kept : buffer' ≡ buffer

-- answered: the buffer begins with a body in canonical form that has exactly the rows p and n words, and goes on as before
pub record Written (F : Format) (R : ℕ) (p : ℕ → Bool) (n : ℕ) (buffer : List ℕ) (o : Outcome (List ℕ)) (buffer' : List ℕ) : Type 0 where
  pub body : List ℕ
  pub answered : o ≡ answer body
  pub buffer-is : buffer' ≡ body ++ drop (length body) buffer
  pub form : Canonical F R body
  pub right : BodyOf F R p body
  pub fewest : length body ≡ n

-- `bodies` are those that the question names
pub record Demand3 (F : Format) (R : ℕ) (p : ℕ → Bool) (bodies : List (List ℕ)) (buffer : List ℕ) (o : Outcome (List ℕ)) (buffer' : List ℕ) : Type 0 where
  -- the words needed are the fewest of any body with the right rows
  pub least : ℕ
  pub least-is : Fewest F R p least
  -- where the buffer is shorter, 9 with that number
  pub no_room : length buffer < least → NoRoom least buffer o buffer'
  -- where it is not, the body
  pub room : least ≤ length buffer → Written F R p least buffer o buffer'
  -- twice the words of the named bodies is always enough
  pub enough : least ≤ 2 * total_words bodies

-- ---- of a threshold question

-- what the demand is about: a sound index, a list of 1 to the most of its bitmaps, repeats included, a T from 1 to the list's length
pub record Asked (index list : List ℕ) (T : ℕ) : Type 0 where
  pub is_sound : SoundIndex index
  pub some : 1 ≤ length list
  pub most : length list ≤ most_named
  pub its : (i : ℕ) → i < length list → get_or list i 0 < bitmap_count index
  pub low : 1 ≤ T
  pub high : T ≤ length list

-- it is asked exactly where neither the check nor 8 refuses
abbrev pub AskedMeans : Type 0
AskedMeans = (index list : List ℕ) (T : ℕ) → Asked index list T ↔ ((check index ≡ sound) × (bad_threshold index list T ≡ false))

pub record ThresholdDemand (index list : List ℕ) (T : ℕ) (buffer : List ℕ) (o : Outcome (List ℕ)) (buffer' : List ℕ) : Type 0 where
  -- the right rows are those that at least T of the list have, and no others
  pub right : (r : ℕ) → (right_rows index list T r ≡ true) ↔ (T ≤ held (named index list) r)
  pub demand : Demand3 (format_of index) (row_count index) (right_rows index list T) (named_bodies index list) buffer o buffer'

-- it holds, for every buffer
abbrev pub ThresholdHolds : Type 0
ThresholdHolds =
    (index list : List ℕ) (T : ℕ) (buffer : List ℕ) → Asked index list T
    → ThresholdDemand index list T buffer (threshold index list T (length buffer)) (buffer_after (threshold index list T (length buffer)) buffer)

-- ---- demand 2

-- valid plain rows: plain words that `compress` refuses with none of 3, 8 and 7
pub record PlainRows (R : ℕ) (plain : List ℕ) : Type 0 where
  pub few : R ≤ most_rows
  pub words : Words plain
  pub count : length plain ≡ segment_count 32 R
  pub pads : last_of plain < last_limit 32 R

pub record Demand2 : Type 0 where
  -- a row is in a threshold answer exactly if at least T of the named bitmaps have it
  pub in-answer : (index list : List ℕ) (T room : ℕ) (b : List ℕ) → threshold index list T room ≡ answer b
      → (r : ℕ) → r < row_count index → (rows_of (format_of index) b r ≡ true) ↔ (T ≤ held (named index list) r)
  -- plain rows that were written read back as they were
  pub write_read : (F : Format) (R : ℕ) (plain : List ℕ) (room room' : ℕ) → PlainRows R plain → segment_count 32 R ≤ room'
      → (b : List ℕ) → compress F R plain room ≡ answer b → expand F R b room' ≡ answer plain
  -- and they are written, given room for their canonical body
  pub write-fits : (F : Format) (R : ℕ) (plain : List ℕ) (room : ℕ) → PlainRows R plain → length (canonical F R (has_row 32 plain)) ≤ room
      → compress F R plain room ≡ answer (canonical F R (has_row 32 plain))
  -- a sound body that is read and written again becomes its canonical form
  pub read-write : (F : Format) (R : ℕ) (b : List ℕ) (room room' : ℕ) → R ≤ most_rows → Sound F R b
      → segment_count 32 R ≤ room → length (canonical F R (rows_of F b)) ≤ room'
      → (plain : List ℕ) × (expand F R b room ≡ answer plain) × (compress F R plain room' ≡ answer (canonical F R (rows_of F b)))

-- ---- what the other questions mean, as facts

-- row r is the nth set row of R, from 0
pub record IsNth (R : ℕ) (p : ℕ → Bool) (n r : ℕ) : Type 0 where
  pub below : r < R
  pub set : p r ≡ true
  pub before : count_below r p ≡ n

-- `nth_below` is, and no other row is
pub record NthRow (R : ℕ) (p : ℕ → Bool) (n : ℕ) : Type 0 where
  pub is : IsNth R p n (nth_below R p n)
  pub only : (r : ℕ) → IsNth R p n r → r ≡ nth_below R p n

abbrev pub NthHolds : Type 0
NthHolds = (R : ℕ) (p : ℕ → Bool) (n : ℕ) → n < count_below R p → NthRow R p n

-- a histogram's entries add up to R
abbrev pub HistogramAdds : Type 0
HistogramAdds = (R : ℕ) (ps : List (ℕ → Bool)) → length ps ≤ most_named → sum_of (histogram_of R ps) ≡ R

-- and are zero past the list's length
abbrev pub HistogramEnds : Type 0
HistogramEnds = (R : ℕ) (ps : List (ℕ → Bool)) (c : ℕ) → length ps < c → get_or (histogram_of R ps) c 0 ≡ 0

-- stretches are at most the named bodies' words, and the answer has at most two words for each
pub record StretchBounds (index list : List ℕ) (o : Outcome (List ℕ)) : Type 0 where
  pub few : stretches_reported index list o ≤ total_words (named_bodies index list)
  pub twice : words_reported o ≤ 2 * stretches_reported index list o

-- of every threshold and every symmetric question, refused or not
pub record StretchesHold : Type 0 where
  pub of-threshold : (index list : List ℕ) (T room : ℕ) → StretchBounds index list (threshold index list T room)
  pub of-symmetric : (index list table : List ℕ) (room : ℕ) → StretchBounds index list (symmetric index list table room)
