-- Segments of w bits, for any width w: rows laid out in them, clean and mixed ones, pad bits. No format is known here.
-- Section "A body" of paper 01, which has w = 32.
-- Assumes nothing.
use Rattle.std.specs.Prelude.{ℕ, zero, suc, ◌+◌, ◌-◌, ◌*◌, ◌/◌, ◌%◌, ◌^◌, min, Bool, cond, ◌&&◌, List, [], ◌∷◌, eqb, leb, ltb, length, get_or}
use Rattle.meaning.specs.Rows.{bit, count_below}

-- ---- rows and segments

-- how many segments R rows fill, the last perhaps in part: paper 01's S
unfoldable pub segment_count : (w R : ℕ) → ℕ
segment_count w R = (R + (w - 1)) / w

-- how many rows lie in the last segment, where there are rows: w if it has no pad bits
unfoldable pub last_rows : (w R : ℕ) → ℕ
last_rows w R = (R - 1) % w + 1

-- how many rows segment i has: w, but the last one perhaps fewer
unfoldable pub rows_in : (w R i : ℕ) → ℕ
rows_in w R i = min w (R - i * w)

-- bit j of a word, the lowest being bit 0
unfoldable pub bit_at : (x j : ℕ) → ℕ
bit_at x j = x / 2 ^ j % 2

-- bit j of a word is set
unfoldable pub is_set : (x j : ℕ) → Bool
unfolding bit_at
is_set x j = eqb (bit_at x j) 1

-- row r is set: it lies in segment r / w, at bit r % w
unfoldable pub has_row : (w : ℕ) → List ℕ → (r : ℕ) → Bool
unfolding is_set
has_row w segs r = is_set (get_or segs (r / w) 0) (r % w)

-- how many bits of the segments are set
unfoldable pub ones : (w : ℕ) → List ℕ → ℕ
unfolding is_set count_below
ones w [] = 0
ones w (x ∷ xs) = count_below w (is_set x) + ones w xs

-- the word whose n bits are q 0, q 1, .. , the lowest first
unfoldable pub word_of : ℕ → (ℕ → Bool) → ℕ
unfolding bit
word_of zero q = 0
word_of (suc n) q = bit (q 0) + 2 * word_of n (λ j. q (suc j))

-- f 0, f 1, .. , f (n - 1)
unfoldable pub tabulate : ℕ → (ℕ → ℕ) → List ℕ
tabulate zero f = []
tabulate (suc n) f = f 0 ∷ tabulate n (λ i. f (suc i))

-- the segments of the R rows p; bits past the last row (pad bits) are zero. With w = 32, the plain words of the rows
unfoldable pub from_rows : (w R : ℕ) → (ℕ → Bool) → List ℕ
unfolding word_of tabulate segment_count
from_rows w R p = tabulate (segment_count w R) (λ i. word_of w (λ j. ltb (i * w + j) R && p (i * w + j)))

-- ---- clean and mixed

-- a segment as a format sees it: clean, all its rows being v (0 or 1), or mixed, with its word
pub data Segment : Type 0 where
  clean : (v : ℕ) → Segment
  mixed : (x : ℕ) → Segment

-- THE TAIL RULE: the word of a clean segment of ones that has `real` rows. All its rows are set; pad bits are not, so that
-- a last segment is clean by its rows alone
unfoldable pub all_set : (real : ℕ) → ℕ
all_set real = 2 ^ real - 1

-- the word of a clean segment of value v
unfoldable pub fill : (real v : ℕ) → ℕ
unfolding all_set
fill real v = v * all_set real

-- a word whose rows are all clear or all set is clean, any other is mixed
unfoldable pub kind : (real x : ℕ) → Segment
unfolding all_set
kind real x = cond (eqb x 0) (clean 0) (cond (eqb x (all_set real)) (clean 1) (mixed x))

-- of each segment of R rows; the last has `last_rows w R` of them, the others w
unfoldable pub kinds : (w R : ℕ) → List ℕ → List Segment
unfolding kind last_rows
kinds w R [] = []
kinds w R (x ∷ []) = kind (last_rows w R) x ∷ []
kinds w R (x ∷ y ∷ ys) = kind w x ∷ kinds w R (y ∷ ys)

-- ---- pad bits

-- the least word that sets a pad bit in the last segment of R rows
unfoldable pub last_limit : (w R : ℕ) → ℕ
unfolding last_rows
last_limit w R = 2 ^ last_rows w R

-- of `left` segments still to come the next c end with the word x; that is the last of all, and has a pad bit set
unfoldable pub over_pad : (w R left c x : ℕ) → Bool
unfolding last_limit
over_pad w R left c x = ltb 0 c && eqb c left && leb (last_limit w R) x

-- the last of a list, 0 if there is none
unfoldable pub last_of : List ℕ → ℕ
last_of [] = 0
last_of (x ∷ []) = x
last_of (x ∷ y ∷ ys) = last_of (y ∷ ys)

-- how many pad bits of R rows, which are the bits past the last row, the segments set
abbrev pub pads : (w R : ℕ) → List ℕ → ℕ
pads w R segs = count_below (length segs * w - R) (λ r. has_row w segs (R + r))
