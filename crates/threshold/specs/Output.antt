-- The bytes that the program writes for the bytes that it reads.
-- Assumes nothing.
use Rattle.std.specs.Prelude.{ℕ, ◌+◌, ◌*◌, ◌/◌, ◌%◌, Bool, cond, not, ◌||◌, List, [], ◌∷◌, ◌++◌, eqb, ltb, length, get_or, drop}
use Rattle.meaning.specs.Limits.{word_bytes}
use Rattle.meaning.specs.Rows.{count_below}
use Rattle.meaning.specs.Segment.{tabulate}
use Rattle.meaning.specs.Refusal.{Outcome, refused, answer}
use Rattle.meaning.specs.Format.{rows_of}
use Rattle.meaning.specs.Index.{format_of, row_count, bitmap_count}
use Rattle.meaning.specs.Answer.{threshold}
use Rattle.text.specs.Lines.{refused_text, head_text, lines_from}

-- ---- limits

-- the most bytes that are read as a question
abbrev pub most_bytes : ℕ
most_bytes = 65536

-- the words of the answer buffer
abbrev pub answer_room : ℕ
answer_room = most_bytes / word_bytes

-- ---- the output

-- what is written of an outcome; an answer's body has the index's format. A refusal's place is already one of the
-- index, with its word 0 first
unfoldable pub outcome_text : (index : List ℕ) (T : ℕ) → Outcome (List ℕ) → List ℕ
unfolding refused_text head_text lines_from row_count bitmap_count count_below rows_of
outcome_text index T (refused number bitmap word) = refused_text number bitmap word
outcome_text index T (answer body) =
    head_text (row_count index) (bitmap_count index) T (count_below (row_count index) (rows_of (format_of index) body))
    ++ lines_from (rows_of (format_of index) body) 0 (row_count index)

-- all bitmaps are named once, in order
unfoldable pub all_named : (N : ℕ) → List ℕ
unfolding tabulate
all_named N = tabulate N (λ k. k)

-- of a question: T and an index
unfoldable pub asked : (T : ℕ) (index : List ℕ) → List ℕ
unfolding outcome_text threshold all_named bitmap_count
asked T index = outcome_text index T (threshold index (all_named (bitmap_count index)) T answer_room)

-- bytes as 32-bit words, the lowest byte first
unfoldable pub words_of : List ℕ → List ℕ
words_of [] = []
words_of (a ∷ []) = []
words_of (a ∷ b ∷ []) = []
words_of (a ∷ b ∷ c ∷ []) = []
words_of (a ∷ b ∷ c ∷ d ∷ bytes) = (a + 256 * b + 65536 * c + 16777216 * d) ∷ words_of bytes

-- they are no whole words, or not even the one of T
unfoldable pub ragged : (n : ℕ) → Bool
ragged n = ltb n word_bytes || not (eqb (n % word_bytes) 0)

-- of all bytes of the input: too many is tested first, then whether they are words, T among them
unfoldable pub output_of : (input : List ℕ) → List ℕ
unfolding refused_text ragged asked words_of
output_of input =
    cond (ltb most_bytes (length input)) (refused_text 3 0 0)
    (cond (ragged (length input)) (refused_text 1 0 0)
    (asked (get_or (words_of input) 0 0) (drop 1 (words_of input))))
