-- Laws of sums f 0 + .. + f (n - 1), and the number of sets of a list that have a row as such a sum.
-- Assumes nothing.
use Prim.Native.Nat.{ℕ, zero, suc, ◌+◌, ◌≤◌, ◌<◌}
use mathlib.Core.Bool.{Bool}
use mathlib.Core.Path.{◌≡◌, refl}
use mathlib.Core.List.{List, [], ◌∷◌, map}
use lib.ListN.{length, get_or}
use native.Mathlib.Omega.{arith}
use Rattle.meaning.specs.Rows.{bit, sum_below}
use Rattle.meaning.specs.Question.{held}

pub sum-ext : (n : ℕ) (f g : ℕ → ℕ) → ((i : ℕ) → i < n → f i ≡ g i) → sum_below n f ≡ sum_below n g
unfolding sum_below
sum-ext zero f g h = refl
sum-ext (suc n) f g h = omega (arith, sum-ext n f g (λ i l. h i (omega arith)), h n (omega arith))

pub sum-zero : (n : ℕ) (f : ℕ → ℕ) → ((i : ℕ) → i < n → f i ≡ 0) → sum_below n f ≡ 0
unfolding sum_below
sum-zero zero f h = refl
sum-zero (suc n) f h = omega (arith, sum-zero n f (λ i l. h i (omega arith)), h n (omega arith))

-- at most as many as there are numbers, where none passes 1
pub sum-le : (n : ℕ) (f : ℕ → ℕ) → ((i : ℕ) → i < n → f i ≤ 1) → sum_below n f ≤ n
unfolding sum_below
sum-le zero f h = omega arith
sum-le (suc n) f h = omega (arith, sum-le n f (λ i l. h i (omega arith)), h n (omega arith))

pub sum_mono : (n : ℕ) (f g : ℕ → ℕ) → ((i : ℕ) → f i ≤ g i) → sum_below n f ≤ sum_below n g
unfolding sum_below
sum_mono zero f g h = omega arith
sum_mono (suc n) f g h = omega (arith, sum_mono n f g h, h n)

pub sum-add : (n : ℕ) (f g : ℕ → ℕ) → sum_below n (λ i. f i + g i) ≡ sum_below n f + sum_below n g
unfolding sum_below
sum-add zero f g = refl
sum-add (suc n) f g = omega (arith, sum-add n f g)

-- the first m, and n more
pub sum-join : (m n : ℕ) (f : ℕ → ℕ) → sum_below (m + n) f ≡ sum_below m f + sum_below n (λ i. f (m + i))
unfolding sum_below
sum-join m zero f = let e : m + 0 ≡ m = omega arith in rw e (omega arith)
sum-join m (suc n) f = let e : m + suc n ≡ suc (m + n) = omega arith in rw e (omega (arith, sum-join m n f))

-- the first, and the others
pub sum_first : (n : ℕ) (f : ℕ → ℕ) → sum_below (suc n) f ≡ f 0 + sum_below n (λ i. f (suc i))
unfolding sum_below
sum_first zero f = omega arith
sum_first (suc n) f = omega (arith, sum_first n f)

-- how many sets of a list have a row, where they are given by the elements of a list; d is what its places past the end would have
pub held-map : {A : Type 0} (f : A → ℕ → Bool) (d : A) (xs : List A) (r : ℕ) → held (map f xs) r ≡ sum_below (length xs) (λ i. bit (f (get_or xs i d) r))
unfolding held sum_below
held-map f d [] r = refl
held-map f d (x ∷ xs) r = omega (arith, held-map f d xs r, sum_first (length xs) (λ i. bit (f (get_or (x ∷ xs) i d) r)))
