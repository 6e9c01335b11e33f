-- The starred readings of paper 01 ("Readings to test by"), and those of request 4, as one table over the definitions; `proofs/AllReadings` has the one claim.
-- Assumes nothing.
use Rattle.std.specs.Prelude.{ℕ, Bool, true, false, ◌&&◌, List, [], ◌∷◌, eqb, length, replicate}
use Rattle.meaning.specs.Segment.{from_rows}
use Rattle.meaning.specs.Refusal.{Outcome, refused, answer, Verdict}
use Rattle.meaning.specs.Format.{rows_of, canonical}
use Rattle.meaning.specs.declared.Format.{Format}
use Rattle.meaning.specs.declared.Format.TheVariants.{Ewah, Wah}
use Rattle.meaning.specs.Question.{is_in, stretches}
use Rattle.meaning.specs.Answer.{buffer_after, words_reported, histogram_reported, stretches_reported, check_body, compress, check, and, or, xor, and_not, not_of, threshold, histogram}

-- ---- tests

unfoldable pub same : List ℕ → List ℕ → Bool
same [] [] = true
same [] (y ∷ ys) = false
same (x ∷ xs) [] = false
same (x ∷ xs) (y ∷ ys) = eqb x y && same xs ys

unfoldable pub is_sound : Verdict → Bool
is_sound (refused number bitmap word) = false
is_sound (answer u) = true

unfoldable pub is_refused : {A : Type 0} → Outcome A → (number bitmap word : ℕ) → Bool
is_refused (refused n b w) number bitmap word = eqb n number && eqb b bitmap && eqb w word
is_refused (answer a) number bitmap word = false

unfoldable pub is_answer : Outcome (List ℕ) → List ℕ → Bool
unfolding same
is_answer (refused n b w) words = false
is_answer (answer ws) words = same ws words

unfoldable pub is_number : Outcome ℕ → (number : ℕ) → Bool
is_number (refused n b w) number = false
is_number (answer x) number = eqb x number

-- ---- what a reading can say

pub data Reading : Type 0 where
  -- the canonical body of these rows; it is sound and has them, and their plain words give it
  encodes : (F : Format) (R : ℕ) (p : ℕ → Bool) (body : List ℕ) → Reading
  -- a sound body with these rows
  holds : (F : Format) (R : ℕ) (p : ℕ → Bool) (body : List ℕ) → Reading
  -- a body that is refused
  faulty : (F : Format) (R : ℕ) (body : List ℕ) (number word : ℕ) → Reading
  -- so many stretches of these bodies
  meets : (F : Format) (R : ℕ) (bodies : List (List ℕ)) (n : ℕ) → Reading
  -- a sound index
  whole : (index : List ℕ) → Reading
  -- a threshold question: the buffer before and after, and the words and stretches reported
  asks : (index list : List ℕ) (T : ℕ) (buffer buffer' : List ℕ) (words n : ℕ) → Reading
  -- a threshold question that is refused
  refuses : (index list : List ℕ) (T : ℕ) (buffer : List ℕ) (number bitmap word : ℕ) → Reading
  -- a histogram
  counts : (index list entries : List ℕ) → Reading
  -- a call that writes this body
  writes : Outcome (List ℕ) → List ℕ → Reading

unfoldable pub passes : Reading → Bool
unfolding same is_sound is_refused is_answer from_rows rows_of canonical stretches check_body compress check threshold histogram buffer_after words_reported histogram_reported stretches_reported
passes (encodes F R p b) =
    same (canonical F R p) b && is_sound (check_body F R b) && same (from_rows 32 R (rows_of F b)) (from_rows 32 R p)
    && is_answer (compress F R (from_rows 32 R p) (length b)) b
passes (holds F R p b) = is_sound (check_body F R b) && same (from_rows 32 R (rows_of F b)) (from_rows 32 R p)
passes (faulty F R b number word) = is_refused (check_body F R b) number 0 word
passes (meets F R bodies n) = eqb (stretches F R bodies) n
passes (whole index) = is_sound (check index)
passes (asks index list T buffer buffer' words n) =
    let o = threshold index list T (length buffer) in
    same (buffer_after o buffer) buffer' && eqb (words_reported o) words && eqb (stretches_reported index list o) n
passes (refuses index list T buffer number bitmap word) =
    let o = threshold index list T (length buffer) in
    is_refused o number bitmap word && same (buffer_after o buffer) buffer && eqb (words_reported o) 0 && eqb (stretches_reported index list o) 0
passes (counts index list entries) = same (histogram_reported (histogram index list)) entries
passes (writes o body) = is_answer o body

unfoldable pub all_pass : List Reading → Bool
unfolding passes
all_pass [] = true
all_pass (c ∷ cs) = passes c && all_pass cs

-- ---- the table

-- the LOOPED example of source document 003 as an index, and the list of all its bitmaps
abbrev pub looped : List ℕ
looped =
    1 ∷ 4 ∷ 3 ∷ 9 ∷ 2 ∷ 11 ∷ 2 ∷ 13 ∷ 2
    ∷ 0x00020000 ∷ 0x3 ∷ 0x00020000 ∷ 0xE ∷ 0x00020000 ∷ 0x8 ∷ []

-- the same index with WAH bodies
abbrev pub looped_wah : List ℕ
looped_wah = 2 ∷ 4 ∷ 3 ∷ 9 ∷ 1 ∷ 10 ∷ 1 ∷ 11 ∷ 1 ∷ 0x3 ∷ 0xE ∷ 0x8 ∷ []

abbrev pub three : List ℕ
three = 0 ∷ 1 ∷ 2 ∷ []

-- the two bitmaps of 8 rows of source document 003
abbrev pub eight : List ℕ
eight = 1 ∷ 8 ∷ 2 ∷ 7 ∷ 2 ∷ 9 ∷ 2 ∷ 0x00020000 ∷ 0x32 ∷ 0x00020000 ∷ 0xB0 ∷ []

-- rows 5 and 64 of 96: in canonical form, and with the clean segment as a dirty word
abbrev pub ninety_six : List ℕ
ninety_six = 0x00020000 ∷ 0x00000020 ∷ 0x00020002 ∷ 0x00000001 ∷ []

abbrev pub wasteful : List ℕ
wasteful = 0x00060000 ∷ 0x00000020 ∷ 0 ∷ 1 ∷ []

unfoldable pub readings : List Reading
unfolding is_in and or xor and_not not_of
readings =
    -- 0 rows
    encodes Ewah 0 (λ r. true) []
    -- 64 rows: none set, all set
    ∷ encodes Ewah 64 (λ r. false) (0x00000004 ∷ [])
    ∷ encodes Ewah 64 (λ r. true) (0x00000005 ∷ [])
    -- 40 rows: all set, rows 0 and 39
    ∷ encodes Ewah 40 (λ r. true) (0x00000005 ∷ [])
    ∷ encodes Ewah 40 (is_in (0 ∷ 39 ∷ [])) (0x00040000 ∷ 0x00000001 ∷ 0x00000080 ∷ [])
    -- 40 rows, body 00000005: all of them (request 3). The last segment as a dirty word; the same with a pad bit
    ∷ holds Ewah 40 (λ r. true) (0x00000005 ∷ [])
    ∷ holds Ewah 40 (λ r. true) (0x00020003 ∷ 0x000000FF ∷ [])
    ∷ faulty Ewah 40 (0x00020003 ∷ 0x000001FF ∷ []) 7 1
    -- 96 rows: rows 5 and 64, and the same wastefully
    ∷ encodes Ewah 96 (is_in (5 ∷ 64 ∷ [])) ninety_six
    ∷ holds Ewah 96 (is_in (5 ∷ 64 ∷ [])) wasteful
    -- LOOPED: T = 2, the histogram, T = 4, a buffer of one word
    ∷ whole looped
    ∷ asks looped three 2 (7 ∷ 7 ∷ 7 ∷ []) (0x00020000 ∷ 0xA ∷ 7 ∷ []) 2 1
    ∷ counts looped three (0 ∷ 2 ∷ 2 ∷ 0 ∷ replicate 253 0)
    ∷ refuses looped three 4 (7 ∷ 7 ∷ 7 ∷ []) 8 0 0
    ∷ refuses looped three 2 (7 ∷ []) 9 0 2
    -- 8 rows: AND, OR, XOR, ANDNOT, and NOT of the first
    ∷ writes (and eight 0 1 2) (0x00020000 ∷ 0x30 ∷ [])
    ∷ writes (or eight 0 1 2) (0x00020000 ∷ 0xB2 ∷ [])
    ∷ writes (xor eight 0 1 2) (0x00020000 ∷ 0x82 ∷ [])
    ∷ writes (and_not eight 0 1 2) (0x00020000 ∷ 0x02 ∷ [])
    ∷ writes (not_of eight 0 2) (0x00020000 ∷ 0xCD ∷ [])
    -- stretches over 96 rows
    ∷ meets Ewah 96 ((0x00000006 ∷ []) ∷ ninety_six ∷ []) 3
    ∷ meets Ewah 96 ((0x00000006 ∷ []) ∷ wasteful ∷ []) 3
    -- WAH (request 4): no rows; 62 rows, none set; a single clean segment is a literal, of a full last segment of 9 rows too
    ∷ encodes Wah 0 (λ r. true) []
    ∷ encodes Wah 62 (λ r. false) (0x80000002 ∷ [])
    ∷ encodes Wah 93 (λ r. false) (0x80000003 ∷ [])
    ∷ encodes Wah 31 (λ r. false) (0 ∷ [])
    ∷ encodes Wah 31 (λ r. true) (0x7FFFFFFF ∷ [])
    ∷ encodes Wah 40 (λ r. true) (0xC0000002 ∷ [])
    ∷ encodes Wah 40 (is_in (0 ∷ 39 ∷ [])) (0x00000001 ∷ 0x00000100 ∷ [])
    ∷ encodes Wah 9 (λ r. true) (0x000001FF ∷ [])
    -- a fill of one segment is read; a full last segment as a literal, and with a pad bit
    ∷ holds Wah 31 (λ r. false) (0x80000001 ∷ [])
    ∷ holds Wah 40 (λ r. true) (0x7FFFFFFF ∷ 0x000001FF ∷ [])
    ∷ faulty Wah 40 (0x7FFFFFFF ∷ 0x7FFFFFFF ∷ []) 7 1
    ∷ holds Wah 62 (λ r. true) (0x7FFFFFFF ∷ 0x7FFFFFFF ∷ [])
    -- a fill of no segments, with segments left and with none; a literal and a fill past the end; an early end
    ∷ faulty Wah 62 (0x80000000 ∷ 0x80000002 ∷ []) 10 0
    ∷ faulty Wah 62 (0x80000002 ∷ 0x80000000 ∷ []) 10 1
    ∷ faulty Wah 62 (0x80000002 ∷ 0 ∷ []) 6 1
    ∷ faulty Wah 62 (0x80000003 ∷ []) 6 0
    ∷ faulty Wah 62 (0x80000001 ∷ []) 6 1
    -- the LOOPED example in WAH; stretches over fills and literals: each word is a piece, equal fills side by side too
    ∷ whole looped_wah
    ∷ asks looped_wah three 2 (7 ∷ 7 ∷ []) (0xA ∷ 7 ∷ []) 1 1
    ∷ counts looped_wah three (0 ∷ 2 ∷ 2 ∷ 0 ∷ replicate 253 0)
    ∷ refuses looped_wah three 2 [] 9 0 1
    ∷ meets Wah 93 ((0x80000003 ∷ []) ∷ (0x80000002 ∷ 0x20 ∷ []) ∷ []) 2
    ∷ meets Wah 124 ((0x80000002 ∷ 0x80000002 ∷ []) ∷ []) 2
    ∷ []
