-- Inputs with the whole output of each, in one table over the definitions; `proofs/Cases` has the one claim.
-- Assumes nothing.
use Rattle.std.specs.Prelude.{ℕ, ◌/◌, ◌%◌, Bool, true, ◌&&◌, List, [], ◌∷◌, take, drop, set}
use Rattle.meaning.specs.Readings.{same, looped}
use Rattle.threshold.specs.Output.{output_of}

-- words as bytes, the lowest first
unfoldable pub bytes_of : List ℕ → List ℕ
bytes_of [] = []
bytes_of (w ∷ ws) = w % 256 ∷ w / 256 % 256 ∷ w / 65536 % 256 ∷ w / 16777216 ∷ bytes_of ws

-- the bytes of T and an index
unfoldable pub question : (T : ℕ) (index : List ℕ) → List ℕ
unfolding bytes_of
question T index = bytes_of (T ∷ index)

pub data Reading : Type 0 where
  writes : (input output : List ℕ) → Reading

unfoldable pub all_pass : List Reading → Bool
unfolding output_of same
all_pass [] = true
all_pass (writes input output ∷ rs) = same (output_of input) output && all_pass rs

unfoldable pub readings : List Reading
unfolding question
readings =
    -- LOOPED with T = 2
    writes (question 2 looped) (114 ∷ 111 ∷ 119 ∷ 115 ∷ 32 ∷ 52 ∷ 10 ∷ 110 ∷ 97 ∷ 109 ∷ 101 ∷ 100 ∷ 32 ∷ 51 ∷ 10 ∷ 116 ∷ 104 ∷ 114 ∷ 101 ∷ 115 ∷ 104 ∷ 111 ∷ 108 ∷ 100 ∷ 32 ∷ 50 ∷ 10 ∷ 115 ∷ 101 ∷ 116 ∷ 32 ∷ 50 ∷ 10 ∷ 49 ∷ 10 ∷ 51 ∷ 10 ∷ [])
    -- rows 0 and 39 of 40
    ∷ writes (question 1 (1 ∷ 40 ∷ 1 ∷ 5 ∷ 3 ∷ 0x00040000 ∷ 0x00000001 ∷ 0x00000080 ∷ [])) (114 ∷ 111 ∷ 119 ∷ 115 ∷ 32 ∷ 52 ∷ 48 ∷ 10 ∷ 110 ∷ 97 ∷ 109 ∷ 101 ∷ 100 ∷ 32 ∷ 49 ∷ 10 ∷ 116 ∷ 104 ∷ 114 ∷ 101 ∷ 115 ∷ 104 ∷ 111 ∷ 108 ∷ 100 ∷ 32 ∷ 49 ∷ 10 ∷ 115 ∷ 101 ∷ 116 ∷ 32 ∷ 50 ∷ 10 ∷ 48 ∷ 10 ∷ 51 ∷ 57 ∷ 10 ∷ [])
    -- no rows
    ∷ writes (question 1 (1 ∷ 0 ∷ 1 ∷ 5 ∷ 0 ∷ [])) (114 ∷ 111 ∷ 119 ∷ 115 ∷ 32 ∷ 48 ∷ 10 ∷ 110 ∷ 97 ∷ 109 ∷ 101 ∷ 100 ∷ 32 ∷ 49 ∷ 10 ∷ 116 ∷ 104 ∷ 114 ∷ 101 ∷ 115 ∷ 104 ∷ 111 ∷ 108 ∷ 100 ∷ 32 ∷ 49 ∷ 10 ∷ 115 ∷ 101 ∷ 116 ∷ 32 ∷ 48 ∷ 10 ∷ [])
    -- no bytes
    ∷ writes ([]) (114 ∷ 101 ∷ 102 ∷ 117 ∷ 115 ∷ 101 ∷ 100 ∷ 32 ∷ 49 ∷ 32 ∷ 48 ∷ 32 ∷ 48 ∷ 10 ∷ [])
    -- three bytes, and five
    ∷ writes (7 ∷ 7 ∷ 7 ∷ []) (114 ∷ 101 ∷ 102 ∷ 117 ∷ 115 ∷ 101 ∷ 100 ∷ 32 ∷ 49 ∷ 32 ∷ 48 ∷ 32 ∷ 48 ∷ 10 ∷ [])
    ∷ writes (7 ∷ 7 ∷ 7 ∷ 7 ∷ 7 ∷ []) (114 ∷ 101 ∷ 102 ∷ 117 ∷ 115 ∷ 101 ∷ 100 ∷ 32 ∷ 49 ∷ 32 ∷ 48 ∷ 32 ∷ 48 ∷ 10 ∷ [])
    -- T alone: the index has no words
    ∷ writes (question 2 []) (114 ∷ 101 ∷ 102 ∷ 117 ∷ 115 ∷ 101 ∷ 100 ∷ 32 ∷ 49 ∷ 32 ∷ 48 ∷ 32 ∷ 48 ∷ 10 ∷ [])
    -- an index that ends within its contents: the place is its length
    ∷ writes (question 2 (take 8 looped)) (114 ∷ 101 ∷ 102 ∷ 117 ∷ 115 ∷ 101 ∷ 100 ∷ 32 ∷ 49 ∷ 32 ∷ 48 ∷ 32 ∷ 56 ∷ 10 ∷ [])
    -- a word 0 that is no kind of index
    ∷ writes (question 2 (3 ∷ drop 1 looped)) (114 ∷ 101 ∷ 102 ∷ 117 ∷ 115 ∷ 101 ∷ 100 ∷ 32 ∷ 50 ∷ 32 ∷ 48 ∷ 32 ∷ 48 ∷ 10 ∷ [])
    -- LOOPED with a pad bit set in bitmap 2, at word 14
    ∷ writes (question 2 (set looped 14 0x18)) (114 ∷ 101 ∷ 102 ∷ 117 ∷ 115 ∷ 101 ∷ 100 ∷ 32 ∷ 55 ∷ 32 ∷ 50 ∷ 32 ∷ 49 ∷ 52 ∷ 10 ∷ [])
    -- T of 0 and of 4, and no bitmap that could be named
    ∷ writes (question 0 looped) (114 ∷ 101 ∷ 102 ∷ 117 ∷ 115 ∷ 101 ∷ 100 ∷ 32 ∷ 56 ∷ 32 ∷ 48 ∷ 32 ∷ 48 ∷ 10 ∷ [])
    ∷ writes (question 4 looped) (114 ∷ 101 ∷ 102 ∷ 117 ∷ 115 ∷ 101 ∷ 100 ∷ 32 ∷ 56 ∷ 32 ∷ 48 ∷ 32 ∷ 48 ∷ 10 ∷ [])
    ∷ writes (question 1 (1 ∷ 4 ∷ 0 ∷ [])) (114 ∷ 101 ∷ 102 ∷ 117 ∷ 115 ∷ 101 ∷ 100 ∷ 32 ∷ 56 ∷ 32 ∷ 48 ∷ 32 ∷ 48 ∷ 10 ∷ [])
    ∷ []
