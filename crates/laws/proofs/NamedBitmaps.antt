-- The bitmaps that a list of numbers names.
-- Assumes nothing.
use Prim.Native.Nat.{ℕ, zero, suc, ◌≤◌, ◌<◌}
use mathlib.Core.Bool.{false, ◌||◌}
use mathlib.Core.Path.{◌≡◌, refl}
use mathlib.Core.List.{List, [], ◌∷◌}
use lib.Dec.{ltb}
use lib.ListN.{length, get_or, length-map}
use native.Mathlib.Omega.{arith}
use borrow.Author.Tests.{ltb-false, le-ltb}
use Rattle.meaning.specs.Limits.{least_column}
use Rattle.meaning.specs.Rows.{none}
use Rattle.meaning.specs.Index.{rows_at}
use Rattle.meaning.specs.Answer.{any_bad, named}
use Rattle.column_meaning.specs.Columns.{bad_column}
use Rattle.laws.proofs.Tests.{or-false}

-- there is a set for each number
pub named-length : (index ks : List ℕ) → length (named index ks) ≡ length ks
unfolding named
named-length index ks = length-map ks (rows_at index)

-- and set i is the rows of the bitmap of number i
pub named-at : (index ks : List ℕ) (i : ℕ) → i < length ks → get_or (named index ks) i none ≡ rows_at index (get_or ks i 0)
unfolding named
named-at index [] i h = absurd (omega arith)
named-at index (k ∷ ks) zero h = refl
named-at index (k ∷ ks) (suc i) h = named-at index ks i (omega arith)

-- a list that is good has 2 to `most` numbers
pub column-length : (index : List ℕ) (most : ℕ) (list : List ℕ) → bad_column index most list ≡ false
    → (2 ≤ length list) × (length list ≤ most)
unfolding bad_column
column-length index most list e =
    let p = or-false (ltb (length list) least_column || ltb most (length list)) (any_bad index list) e in
    let q = or-false (ltb (length list) least_column) (ltb most (length list)) p.0 in
    (ltb-false (length list) least_column q.0, ltb-false most (length list) q.1)

-- and each is a bitmap's
pub column-named : (index : List ℕ) (most : ℕ) (list : List ℕ)
    → bad_column index most list ≡ false → any_bad index list ≡ false
unfolding bad_column
column-named index most list e =
    (or-false (ltb (length list) least_column || ltb most (length list)) (any_bad index list) e).1

-- one of 2 to `most` numbers, each a bitmap's, is good
pub column-good : (index : List ℕ) (most : ℕ) (list : List ℕ)
    → 2 ≤ length list → length list ≤ most → any_bad index list ≡ false → bad_column index most list ≡ false
unfolding bad_column
column-good index most list l m a = rw (le-ltb (length list) least_column l, le-ltb most (length list) m, a)

-- so a list that is good is so where more numbers are let through
pub column-more : (index : List ℕ) (most more : ℕ) (list : List ℕ) → most ≤ more
    → bad_column index most list ≡ false → bad_column index more list ≡ false
column-more index most more list h e =
    let l = column-length index most list e in
    column-good index more list l.0 (omega (arith, l.1)) (column-named index most list e)
