-- What holds of a writer that takes rows in batches, for a reader to find in one place: of one batch, whatever state and buffer are
-- lent, and of every chain of batches between which nothing but the writer changes either. Proved in `proofs/Appended`. Request 9.
-- Assumes nothing.
use Rattle.std.specs.Prelude.{ℕ, ◌+◌, ◌-◌, ◌≤◌, ◌<◌, Bool, true, false, ◌≡◌, ◌↔◌, List, [], ◌∷◌, ◌++◌, length, drop}
use Rattle.meaning.specs.Limits.{most_rows}
use Rattle.meaning.specs.Segment.{has_row, segment_count, last_limit, last_of}
use Rattle.meaning.specs.Refusal.{Outcome, refused, answer}
use Rattle.meaning.specs.Format.{rows_of, Canonical, canonical}
use Rattle.meaning.specs.declared.Format.TheVariants.{Ewah}
use Rattle.meaning.specs.Question.{is_in}
use Rattle.meaning.specs.Answer.{compress, buffer_after}
use Rattle.laws.specs.Demands.{PlainRows, BodyOf}
use Rattle.batches.specs.declared.AppendState.{AppendState}
use Rattle.batches.specs.Append.{begun, is_canonical, in_use, mismatched, Batch, followed, rows_with, append, state_after, Kept, start_on, outcome_of, after_batch, after_all, accepted_of, all_rows, rows_across}

-- the greatest number that a batch can be refused with: 12 is given of nothing else
abbrev pub most_batch_number : ℕ
most_batch_number = 12

-- a refusal has one of the numbers, so that 0 can say that there is none
unfoldable pub BatchNumbered : {A : Type 0} → Outcome A → Type 0
BatchNumbered (refused number bitmap word) = (1 ≤ number) × (number ≤ most_batch_number)
BatchNumbered (answer a) = Unit {0}

-- this state and this buffer belong together, as paper 02 says it of 12
pub record Matches (s : AppendState) (buffer : List ℕ) : Type 0 where
  pub room : length buffer ≡ s.room
  pub few : s.rows ≤ most_rows
  pub inside : s.words ≤ length buffer
  pub form : Canonical Ewah s.rows (in_use s buffer)

-- the canonical body of the rows so far and the batch's
abbrev pub body_with : AppendState → (buffer : List ℕ) → Batch → List ℕ
body_with s buffer b = canonical Ewah (s.rows + b.rows) (rows_with s buffer b)

-- ---- the order of refusals: 12, whatever the batch is; 3, whatever its words are; 8, whatever bits they have; 7, whatever the buffer's
-- length is; 9 with the words of the whole body, if the buffer has fewer; and else that body

-- neither 12 nor 3 is due: the rows are few enough with those so far
pub record Admitted (s : AppendState) (buffer : List ℕ) (b : Batch) : Type 0 where
  pub belongs : Matches s buffer
  pub few : s.rows + b.rows ≤ most_rows

pub record BatchOrder (s : AppendState) (buffer : List ℕ) (b : Batch) : Type 0 where
  -- a call is refused with 12 exactly where state and buffer do not belong together
  pub twelve : (append s buffer b ≡ refused 12 0 0) ↔ (Matches s buffer → ⊥)
  pub three : Matches s buffer → most_rows < s.rows + b.rows → append s buffer b ≡ refused 3 0 1
  pub eight : Admitted s buffer b → (length b.plain ≡ segment_count 32 b.rows → ⊥) → append s buffer b ≡ refused 8 0 0
  pub seven : Admitted s buffer b → length b.plain ≡ segment_count 32 b.rows → last_limit 32 b.rows ≤ last_of b.plain
      → append s buffer b ≡ refused 7 0 (length b.plain - 1)
  pub nine : Admitted s buffer b → length b.plain ≡ segment_count 32 b.rows → last_of b.plain < last_limit 32 b.rows
      → length buffer < length (body_with s buffer b) → append s buffer b ≡ refused 9 0 (length (body_with s buffer b))
  pub taken : Admitted s buffer b → length b.plain ≡ segment_count 32 b.rows → last_of b.plain < last_limit 32 b.rows
      → length (body_with s buffer b) ≤ length buffer → append s buffer b ≡ answer (body_with s buffer b)

-- the numbers of these refusals
abbrev pub numbers_given : List ℕ
numbers_given = 12 ∷ 3 ∷ 8 ∷ 7 ∷ 9 ∷ []

-- ---- what batches leave

-- the words that an accepted batch leaves in use: a sound and canonical body of exactly the rows so far and the batch's, no shorter
-- than the one before. State and buffer belong together before and after, so that the next batch is not refused with 12
pub record Grown (s : AppendState) (buffer : List ℕ) (b : Batch) (words : List ℕ) : Type 0 where
  pub belongs : Matches s buffer
  pub few : s.rows + b.rows ≤ most_rows
  pub fits : length words ≤ length buffer
  pub form : Canonical Ewah (s.rows + b.rows) words
  pub right : BodyOf Ewah (s.rows + b.rows) (rows_with s buffer b) words
  pub no-shorter : s.words ≤ length words
  pub still : Matches (state_after (answer words) s b.rows) (buffer_after (answer words) buffer)

-- the words in use of what is kept, and their rows
abbrev pub kept_words : Kept → List ℕ
kept_words k = in_use k.state k.buffer

abbrev pub kept_rows : Kept → ℕ → Bool
kept_rows k = rows_of Ewah (kept_words k)

-- each batch is accepted, in turn
abbrev pub NoneRefused : Kept → List Batch → Type 0
NoneRefused k [] = Unit {0}
NoneRefused k (b ∷ bs) = ((words : List ℕ) × (outcome_of k b ≡ answer words)) × NoneRefused (after_batch k b) bs

-- each batch has valid plain rows
abbrev pub AllPlain : List Batch → Type 0
AllPlain [] = Unit {0}
AllPlain (b ∷ bs) = PlainRows b.rows b.plain × AllPlain bs

-- state and buffer have the canonical body of the R rows p; behind it the buffer is `old`
pub record Holds (old : List ℕ) (k : Kept) (R : ℕ) (p : ℕ → Bool) : Type 0 where
  pub few : R ≤ most_rows
  pub fits : length (canonical Ewah R p) ≤ length old
  pub state-is : k.state ≡ record { room = length old; rows = R; words = length (canonical Ewah R p) }
  pub buffer-is : k.buffer ≡ canonical Ewah R p ++ drop (length (canonical Ewah R p)) old
  -- that body is sound, canonical, and has exactly these rows
  pub form : Canonical Ewah R (kept_words k)
  pub right : BodyOf Ewah R p (kept_words k)

pub record AppendLaws : Type 0 where
  -- the test of 12 tells canonical bodies from others
  pub tests-canonical : (R : ℕ) (b : List ℕ) → is_canonical R b ≡ true → Canonical Ewah R b
  pub not-canonical : (R : ℕ) (b : List ℕ) → is_canonical R b ≡ false → Canonical Ewah R b → ⊥
  -- so the test of 12 fails exactly where state and buffer belong together; `BatchOrder` has what it says of a call
  pub belongs : (s : AppendState) (buffer : List ℕ) → (mismatched s buffer ≡ false) ↔ Matches s buffer
  -- each refusal in its turn, whatever state and buffer are lent
  pub order : (s : AppendState) (buffer : List ℕ) (b : Batch) → BatchOrder s buffer b
  -- and none has another number
  pub only : (s : AppendState) (buffer : List ℕ) (b : Batch) (number bitmap word : ℕ)
      → append s buffer b ≡ refused number bitmap word → is_in numbers_given number ≡ true
  -- a writer's first batch is answered as `compress` answers
  pub first-is-compress : (buffer : List ℕ) (b : Batch)
      → append (begun buffer) buffer b ≡ compress Ewah b.rows b.plain (length buffer)
  -- an accepted batch, whatever state and buffer are lent
  pub accepted : (s : AppendState) (buffer : List ℕ) (b : Batch) (words : List ℕ) → append s buffer b ≡ answer words → Grown s buffer b words
  -- after a refused batch state and buffer are as before it, so that the next batch is answered as if it had not come
  pub refused-keeps : (k : Kept) (b : Batch) (number bitmap word : ℕ) → outcome_of k b ≡ refused number bitmap word → after_batch k b ≡ k
  -- a batch of no rows changes nothing, accepted or refused
  pub none-keeps : (k : Kept) (b : Batch) → b.rows ≡ 0 → after_batch k b ≡ k
  -- no batches, accepted or refused, leave fewer words in use
  pub never-shorter : (k : Kept) (bs : List Batch) → k.state.words ≤ (after_all k bs).state.words
  -- from any state and buffer that belong together, after any batches, some of which may be refused: the body of the rows so far and
  -- those of the batches accepted, and behind it the buffer as it was
  pub from-any : (k : Kept) (bs : List Batch) → Matches k.state k.buffer
      → Holds k.buffer (after_all k bs) (k.state.rows + all_rows (accepted_of k bs))
      (followed k.state.rows (kept_rows k) (rows_across (accepted_of k bs)))
  -- a writer that has just begun has no rows but the batches'
  pub any-chain : (buffer : List ℕ) (bs : List Batch)
      → Holds buffer (after_all (start_on buffer) bs) (all_rows (accepted_of (start_on buffer) bs)) (rows_across (accepted_of (start_on buffer) bs))
  -- and then its words are those that `compress` writes of the same rows at once
  pub as-compressed : (buffer : List ℕ) (bs : List Batch) (plain : List ℕ) → PlainRows (all_rows (accepted_of (start_on buffer) bs)) plain
      → ((r : ℕ) → r < all_rows (accepted_of (start_on buffer) bs) → has_row 32 plain r ≡ rows_across (accepted_of (start_on buffer) bs) r)
      → compress Ewah (all_rows (accepted_of (start_on buffer) bs)) plain (length buffer) ≡ answer (kept_words (after_all (start_on buffer) bs))
  -- if none is refused, these are all
  pub none-left-out : (k : Kept) (bs : List Batch) → NoneRefused k bs → accepted_of k bs ≡ bs
  -- so the way that rows are cut into batches, all of them accepted, shows neither in the state nor in any word of the buffer
  pub same_body : (buffer : List ℕ) (bs cs : List Batch) → NoneRefused (start_on buffer) bs → NoneRefused (start_on buffer) cs
      → all_rows bs ≡ all_rows cs → ((r : ℕ) → r < all_rows bs → rows_across bs r ≡ rows_across cs r)
      → after_all (start_on buffer) bs ≡ after_all (start_on buffer) cs
  -- nor, whatever two buffers are lent, in the words in use
  pub same-words : (x y : List ℕ) (bs cs : List Batch) → NoneRefused (start_on x) bs → NoneRefused (start_on y) cs → all_rows bs ≡ all_rows cs
      → ((r : ℕ) → r < all_rows bs → rows_across bs r ≡ rows_across cs r)
      → kept_words (after_all (start_on x) bs) ≡ kept_words (after_all (start_on y) cs)
  -- a buffer with room for the last body has room for each before it: batches of valid rows, few enough together, are all accepted,
  -- from any state and buffer that belong together
  pub all-accepted : (k : Kept) (bs : List Batch) → Matches k.state k.buffer → AllPlain bs → k.state.rows + all_rows bs ≤ most_rows
      → length (canonical Ewah (k.state.rows + all_rows bs) (followed k.state.rows (kept_rows k) (rows_across bs))) ≤ length k.buffer
      → NoneRefused k bs
  -- and so they are from a writer that has just begun
  pub none-refused : (buffer : List ℕ) (bs : List Batch) → AllPlain bs → all_rows bs ≤ most_rows
      → length (canonical Ewah (all_rows bs) (rows_across bs)) ≤ length buffer
      → NoneRefused (start_on buffer) bs
  -- a refusal has one of the numbers, or 12
  pub numbered : (s : AppendState) (buffer : List ℕ) (b : Batch) → BatchNumbered (append s buffer b)
