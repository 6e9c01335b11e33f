-- Bit-sliced columns (source document 002) as sets of rows and numbers: the rows that exist, and for each binary digit of their
-- values, the lowest first, a slice, the rows that have it set. No index, refusal or buffer is known here. Requests 1 and 7.
-- Assumes nothing.
use Rattle.std.specs.Prelude.{ℕ, zero, suc, ◌+◌, ◌-◌, ◌*◌, ◌^◌, min, Bool, ◌&&◌, List, [], ◌∷◌, ℤ, pos, neg_ℤ, ◌+ℤ◌, ◌*ℤ◌}
use Rattle.meaning.specs.Rows.{bit}
use Rattle.meaning.specs.Segment.{is_set, tabulate}
use Rattle.meaning.specs.declared.Pairing.{Pairing}
use Rattle.meaning.specs.declared.Pairing.TheVariants.{Sum, Difference, Smaller, DifferenceOrZero}

-- ---- a column's values

-- the value of row r: slice i weighs 2 ^ i
unfoldable pub value_of : List (ℕ → Bool) → (r : ℕ) → ℕ
unfolding bit
value_of [] r = 0
value_of (p ∷ ps) r = bit (p r) + 2 * value_of ps r

-- the value of row r in a signed column, which is two's complement with the top slice as its sign (request 7): as above, but the
-- top slice's digit is negated, so that of n slices it weighs - 2 ^ (n - 1)
unfoldable pub signed_of : List (ℕ → Bool) → (r : ℕ) → ℤ
unfolding bit
signed_of [] r = pos 0
signed_of (p ∷ []) r = neg_ℤ (pos (bit (p r)))
signed_of (p ∷ q ∷ ps) r = pos (bit (p r)) +ℤ pos 2 *ℤ signed_of (q ∷ ps) r

-- ---- a column made of values

-- slice i of the column of these values: the rows that exist and whose value has binary digit i set
unfoldable pub slice : (exists : ℕ → Bool) (value : ℕ → ℕ) (i : ℕ) → ℕ → Bool
unfolding is_set
slice exists value i r = exists r && is_set (value r) i

-- n slices from slice i on
unfoldable pub slices_from : (exists : ℕ → Bool) (value : ℕ → ℕ) (i n : ℕ) → List (ℕ → Bool)
unfolding slice
slices_from exists value i zero = []
slices_from exists value i (suc n) = slice exists value i ∷ slices_from exists value (suc i) n

-- the bitmaps of a column of n slices, in the order of a list that names it: existence first, then the slices, the lowest first.
-- Of a value of 2 ^ n or more the n lowest digits stay
unfoldable pub column_of : (exists : ℕ → Bool) (value : ℕ → ℕ) (n : ℕ) → List (ℕ → Bool)
unfolding slices_from
column_of exists value n = exists ∷ slices_from exists value 0 n

-- the list that names the whole of such a column: 0, 1, .. , n
abbrev pub whole : (n : ℕ) → List ℕ
whole n = tabulate (suc n) (λ i. i)

-- ---- two columns

-- what is made of two values, x and y, of a row, as a number whose n lowest digits are the answer's slices: the sum; the difference
-- in two's complement, which is modulo 2 ^ n, so that 2 ^ n can be added first, and ℕ's own difference cuts nothing off, as y is
-- below 2 ^ n; the smaller; the difference, or 0 where that is negative, which is what ℕ's own is (EXCEPT ALL of source document 002)
unfoldable pub pair_value : Pairing → (n x y : ℕ) → ℕ
pair_value Sum n x y = x + y
pair_value Difference n x y = x + 2 ^ n - y
pair_value Smaller n x y = min x y
pair_value DifferenceOrZero n x y = x - y

-- how many slices the answer has, where the wider column has w: a sum and a difference have one more
unfoldable pub pair_slices : Pairing → (w : ℕ) → ℕ
pair_slices Sum w = suc w
pair_slices Difference w = suc w
pair_slices Smaller w = w
pair_slices DifferenceOrZero w = w
